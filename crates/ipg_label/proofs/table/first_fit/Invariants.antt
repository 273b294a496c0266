use Rattle.std.proofs.Common.{◌≡◌, ℕ, ℤ, map, length}
use Rattle.ipg_label.specs.Labels as spec
use Rattle.ipg_label.proofs.table.first_fit.Given as goal

abbrev pub invariant-loop-one : goal.invariant-loop-one
invariant-loop-one l =
    spec.first_fit (map (λ (attr : ℕ × ℤ). attr.0) l.attrs) l.kids l.left ≡ spec.first_fit (map (λ (attr : ℕ × ℤ). attr.0) l.attrs) l.kids l.shapes

abbrev pub decreases-loop-one : goal.decreases-loop-one
decreases-loop-one l = length l.left
