use Rattle.std.proofs.Common.{◌≡◌, ℕ, ℤ, map, length}
use Rattle.ipg_label.specs.Labels as spec
use Rattle.ipg_label.proofs.table.same_attrs.Given as goal

abbrev pub invariant-loop-x : goal.invariant-loop-x
invariant-loop-x l = spec.same_attrs l.left (map (λ (attr : ℕ × ℤ). attr.0) l.others) ≡ spec.same_attrs l.a (map (λ (attr : ℕ × ℤ). attr.0) l.b)

abbrev pub decreases-loop-x : goal.decreases-loop-x
decreases-loop-x l = length l.left
