use Rattle.std.proofs.Common.{◌≡◌, ◌++◌, ◌+◌, length}
use Rattle.ipg_label.specs.Labels as spec
use Rattle.ipg_label.proofs.shape.labels_in.Given as goal

abbrev pub invariant-loop-term : goal.invariant-loop-term
invariant-loop-term l = record {
  so_far : l.labels.items ++ spec.labels_in l.names l.terms l.number l.left ≡ spec.labels_in l.names l.terms 0 l.terms;
  count : l.number + length l.left ≡ length l.terms;
}

abbrev pub decreases-loop-term : goal.decreases-loop-term
decreases-loop-term l = length l.left
