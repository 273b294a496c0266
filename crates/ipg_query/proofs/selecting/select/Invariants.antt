use Rattle.std.proofs.Common.{reverse}
use Rattle.ipg_core.specs.Grammar.{Grammar}
use Rattle.ipg_core.specs.Tree.{Tree}
use Rattle.ipg_mach_nodes.specs.Stored.{Source}
use Rattle.ipg_query.specs.Hits.{IsHit, IsTree}
use Rattle.ipg_query.specs.Picked.{picked, shown}
use Rattle.ipg_query.specs.Spots.{seen}
use Rattle.ipg_query.proofs.Picking.{IsUnderWay}
use Rattle.ipg_query.proofs.selecting.select.Given as goal

abbrev pub invariant-piled : goal.invariant-piled
invariant-piled g l =
    (src : Source) (grammar : Grammar) (one : Tree) → IsTree l.p.parse src grammar one
    → IsUnderWay IsHit (shown grammar l.p.parse.input l.fn.query.field) src l.p.parse.store grammar (reverse (seen l.pile.items)) l.hits.items
    (picked grammar l.p.parse.input l.fn.query one)
