use Rattle.std.proofs.Common.{◌≡◌, ◌++◌, length}
use Rattle.ipg_label.specs.Labels as spec
use Rattle.ipg_label.proofs.shape.sets_in.Given as goal

abbrev pub invariant-loop-term : goal.invariant-loop-term
invariant-loop-term l = l.sets.items ++ spec.sets_in l.left ≡ spec.sets_in l.terms

abbrev pub decreases-loop-term : goal.decreases-loop-term
decreases-loop-term l = length l.left
