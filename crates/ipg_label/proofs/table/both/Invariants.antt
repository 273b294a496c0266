use Rattle.std.proofs.Common.{◌≡◌, ◌++◌, length}
use Rattle.ipg_label.specs.Labels as spec
use Rattle.ipg_label.proofs.table.both.Given as goal

abbrev pub invariant-loop-x : goal.invariant-loop-x
invariant-loop-x l = l.labels.items ++ spec.both l.left l.others ≡ spec.both l.a l.b

abbrev pub decreases-loop-x : goal.decreases-loop-x
decreases-loop-x l = length l.left
