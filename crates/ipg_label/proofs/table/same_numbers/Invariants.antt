use Rattle.std.proofs.Common.{◌≡◌, length}
use Rattle.ipg_label.specs.Labels as spec
use Rattle.ipg_label.proofs.table.same_numbers.Given as goal

abbrev pub invariant-loop-x : goal.invariant-loop-x
invariant-loop-x l = spec.same_attrs l.left l.others ≡ spec.same_attrs l.a l.b

abbrev pub decreases-loop-x : goal.decreases-loop-x
decreases-loop-x l = length l.left
