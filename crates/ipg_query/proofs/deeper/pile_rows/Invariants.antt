use Rattle.std.proofs.Common.{◌≤◌, List, length, reverse}
use Rattle.ipg_core.specs.Grammar.{Grammar}
use Rattle.ipg_core.specs.Tree.{Kids}
use Rattle.ipg_mach_nodes.specs.Stored.{Source, Stored, StandKids}
use Rattle.ipg_query.specs.Picked.{Found}
use Rattle.ipg_query.specs.Spots.{AreNear, Comes, seen}
use Rattle.ipg_query.proofs.Piling.{FromOn}
use Rattle.ipg_query.proofs.deeper.pile_rows.Given as goal

abbrev pub invariant-loop-left : goal.invariant-loop-left
invariant-loop-left l = record {
  so_far :
      (src : Source) (st : Stored) (grammar : Grammar) (ones : Kids) (xs : List Found) (stand : StandKids src st l.at l.rows ones) (near : AreNear l.at ones)
      → Comes src st grammar (reverse (seen l.initial.pile.items)) xs
      → FromOn src st grammar l.at l.rows ones l.steps stand near (seen l.pile.items) l.left xs;
  within : l.left ≤ length l.rows;
}

abbrev pub decreases-loop-left : goal.decreases-loop-left
decreases-loop-left l = l.left
