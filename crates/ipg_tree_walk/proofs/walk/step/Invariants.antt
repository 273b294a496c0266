use Rattle.std.proofs.Common.{◌≡◌, ◌≤◌, List, length}
use Rattle.ipg_mach_nodes.specs.Stored.{Source}
use Rattle.ipg_tree_walk.specs.Visits.{Seen}
use Rattle.ipg_tree_walk.specs.Left.{Leave}
use Rattle.ipg_tree_walk.specs.Steps.{steps}
use Rattle.ipg_tree_walk.proofs.walk.step.Given as goal

abbrev pub invariant-loop-level : goal.invariant-loop-level
invariant-loop-level g l = record {
  room : l.stack.room ≡ l.fn.stack.room;
  ends : steps l.stack.room l.stack.levels ≤ steps l.fn.stack.room l.fn.stack.levels;
  left : (src : Source) (left : List Seen) → Leave src l.store l.fn.stack.room l.fn.stack.levels left → Leave src l.store l.stack.room l.stack.levels left;
}

abbrev pub decreases-loop-level : goal.decreases-loop-level
decreases-loop-level g l = length l.stack.levels
