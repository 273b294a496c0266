use Rattle.std.proofs.Common.{◌≡◌, ◌++◌, map, length}
use Rattle.ipg_label.specs.Labels as spec
use Rattle.ipg_label.proofs.table.all_shapes.Given as goal

abbrev pub invariant-loop-rule : goal.invariant-loop-rule
invariant-loop-rule l = l.shapes.items ++ map (spec.shapes_of l.names) l.left ≡ map (spec.shapes_of l.names) l.rules

abbrev pub decreases-loop-rule : goal.decreases-loop-rule
decreases-loop-rule l = length l.left
