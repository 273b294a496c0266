use Rattle.std.proofs.Common.{◌≡◌, length}
use Rattle.ipg_label.specs.Labels as spec
use Rattle.ipg_label.proofs.table.agreed_shape.Given as goal

abbrev pub invariant-loop-other : goal.invariant-loop-other
invariant-loop-other l = spec.agreed l.one l.labels.items l.left ≡ spec.agreed l.one l.one.labels l.shapes

abbrev pub decreases-loop-other : goal.decreases-loop-other
decreases-loop-other l = length l.left
