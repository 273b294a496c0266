use Rattle.std.proofs.Common.{reverse, flat_map, [], ◌∷◌}
use Rattle.ipg_core.specs.Grammar.{Grammar}
use Rattle.ipg_core.specs.Tree.{Tree}
use Rattle.ipg_mach_nodes.specs.Stored.{Source}
use Rattle.ipg_tree_walk.specs.Visits.{whole}
use Rattle.ipg_query.specs.Hits.{IsTree}
use Rattle.ipg_query.specs.Picked.{found, members}
use Rattle.ipg_query.specs.Spots.{IsSpot, seen}
use Rattle.ipg_query.proofs.Picking.{IsUnderWay}
use Rattle.ipg_query.proofs.selecting.members.Given as goal

abbrev pub invariant-piled : goal.invariant-piled
invariant-piled g l =
    (src : Source) (grammar : Grammar) (one : Tree) → IsTree l.p.parse src grammar one
    → IsUnderWay (IsSpot src l.p.parse.store) (λ x. x ∷ []) src l.p.parse.store grammar (reverse (seen l.pile.items)) l.found.items
    (flat_map (λ x. x ∷ []) (members grammar l.fn.query.steps (found 0 (whole one) ∷ [])))
