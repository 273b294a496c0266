use Rattle.std.proofs.Common.{◌≡◌, ◌++◌, map, length}
use Rattle.ipg_label.specs.Labels as spec
use Rattle.ipg_label.proofs.table.agreed_shapes.Given as goal

abbrev pub invariant-loop-one : goal.invariant-loop-one
invariant-loop-one l = l.agreed.items ++ map (spec.agreed_shape l.shapes) l.left ≡ map (spec.agreed_shape l.shapes) l.shapes

abbrev pub decreases-loop-one : goal.decreases-loop-one
decreases-loop-one l = length l.left
