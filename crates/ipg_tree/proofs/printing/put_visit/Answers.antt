use Rattle.std.proofs.Common.{sym, subst}
use Rattle.ipg_tree.specs.Putting.{as_text}
use Rattle.ipg_tree.specs.Behind.{IsNodeRow}
use Rattle.ipg_tree.proofs.Visited.{node_seen}
use Rattle.ipg_tree.proofs.printing.put_visit.Goals as goal

pub returns-in-Node : goal.returns-in-Node
returns-in-Node g c src grammar one shares shows =
    let seen = node_seen src c.args.p.now.parse.store grammar c.args.visit one (subst IsNodeRow (sym c.in-Node.is) tt) shows in
    as_text c.put_node.result _ _ _ _ _ _ seen.is (c.put_node.ensures src grammar seen.at seen.one shares.tables seen.stands shows.small)
