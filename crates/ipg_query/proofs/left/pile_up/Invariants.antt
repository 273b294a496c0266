use Rattle.std.proofs.Common.{◌≡◌, ◌≤◌, ◌++◌, drop, length, map, reverse}
use Rattle.ipg_query.specs.Spots.{seen, left_at}
use Rattle.ipg_query.proofs.left.pile_up.Given as goal

abbrev pub invariant-loop-left : goal.invariant-loop-left
invariant-loop-left l =
    (seen l.pile.items ≡ seen l.initial.pile.items ++ reverse (map (left_at l.steps) (drop l.left l.spots))) × (l.left ≤ length l.spots)

abbrev pub decreases-loop-left : goal.decreases-loop-left
decreases-loop-left l = l.left
