use Rattle.std.proofs.Common.{◌≡◌, ◌++◌, OnOk, sym, subst}
use Rattle.ipg_tree_rows.proofs.Seeing.{IsNodeRow, tree_seen}
use Rattle.ipg_tree_rows.proofs.visited.add_visit.Goals as goal

pub returns-in-Node : goal.returns-in-Node
returns-in-Node g c src one source shows =
    let seen = tree_seen src c.args.p.now.parse.store c.args.visit one (subst IsNodeRow (sym c.in-Node.is) tt) shows in
    subst (λ rows. OnOk c.add_tree.result (c.add_tree.new.rows.items ≡ c.args.rows.now.items ++ rows)) seen.is
    (c.add_tree.ensures src seen.at seen.one seen.stands shows.small)
