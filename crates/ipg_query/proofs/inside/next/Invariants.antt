use Rattle.std.proofs.Common.{◌≡◌, ◌≤◌, List, length}
use Rattle.ipg_mach_nodes.specs.Stored.{Source}
use Rattle.ipg_tree_walk.specs.Visits.{Seen}
use Rattle.ipg_query.specs.Inside.{Leave, steps}
use Rattle.ipg_query.proofs.inside.next.Given as goal

abbrev pub invariant-loop-level : goal.invariant-loop-level
invariant-loop-level g l = record {
  room : l.walk.room ≡ l.fn.walk.room;
  ends : steps l.walk.room l.walk.levels ≤ steps l.fn.walk.room l.fn.walk.levels;
  left :
      (src : Source) (left : List Seen) → Leave src l.p.parse.store l.fn.walk.room l.fn.walk.levels left
      → Leave src l.p.parse.store l.walk.room l.walk.levels left;
}

abbrev pub decreases-loop-level : goal.decreases-loop-level
decreases-loop-level g l = length l.walk.levels
