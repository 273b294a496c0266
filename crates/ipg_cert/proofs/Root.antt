-- The facts at the root hold where the assignment lies in the box and the formula holds.
use Rattle.std.proofs.Common.{◌≡◌, ℕ, suc, ◌+◌, true, ◌&&◌, ℤ, pos, negsuc, ◌+ℤ◌, ◌*ℤ◌, neg_ℤ, length, List, [], ◌∷◌, refl, ◌∙◌, ap, subst, arith}
use Rattle.std.specs.Prelude.{Some, slice_get, int_le, ◌≤ℤ◌}
use Rattle.std.proofs.lemmas.Int.{ints}
use borrow.Author.Differences.{product_is}
use Rattle.ipg_lin.specs.Form.{Assignment}
use Rattle.ipg_lin.specs.Formula.{Solvable}
use Rattle.ipg_lin.specs.declared.formula.Formula.{Formula}
use Rattle.ipg_lin.specs.declared.formula.Boxed.{Boxed}
use Rattle.ipg_cert.specs.Facts.{all_hold, bound_facts, facts_of}
use Rattle.ipg_cert.specs.Checks.{root_facts, checks}
use Rattle.ipg_cert.specs.declared.refutation.Refutation.{Refutation}
use Rattle.ipg_cert.specs.Told.{all_hold-append, is_told}
use Rattle.ipg_cert.proofs.Sound.{le_test, refutes_sound}

-- the variables from x on are within these bounds
abbrev AreWithin : Assignment → ℕ → List (ℤ × ℤ) → Type 0
AreWithin v x bounds = (k : ℕ) (low high : ℤ) → slice_get bounds k ≡ Some (low, high) → (low ≤ℤ v (x + k)) × (v (x + k) ≤ℤ high)

bounds_hold : (v : Assignment) (x : ℕ) (bounds : List (ℤ × ℤ)) → AreWithin v x bounds → all_hold v (bound_facts x bounds) ≡ true
bounds_hold v x [] h = refl
bounds_hold v x (b ∷ bounds) h =
    let here : (b.0 ≤ℤ v x) × (v x ≤ℤ b.1) = subst (λ n. (b.0 ≤ℤ v n) × (v n ≤ℤ b.1)) (omega arith) (h 0 b.0 b.1 refl) in
    let low : int_le (((negsuc 0 *ℤ v x) +ℤ pos 0) +ℤ b.0) (pos 0)
    ≡ true = le_test (((negsuc 0 *ℤ v x) +ℤ pos 0) +ℤ b.0) (pos 0) (omega (arith, ints, here.0, product_is (negsuc 0) (v x))) in
    let high : int_le (((pos 1 *ℤ v x) +ℤ pos 0) +ℤ neg_ℤ b.1) (pos 0)
    ≡ true = le_test (((pos 1 *ℤ v x) +ℤ pos 0) +ℤ neg_ℤ b.1) (pos 0) (omega (arith, ints, here.1, product_is (pos 1) (v x))) in
    let rest : all_hold v (bound_facts (x + 1) bounds) ≡ true =
    bounds_hold v (x + 1) bounds (λ k lo hi at. subst (λ n. (lo ≤ℤ v n) × (v n ≤ℤ hi)) (omega arith) (h (suc k) lo hi at)) in
    ap (λ a. a && (int_le (((pos 1 *ℤ v x) +ℤ pos 0) +ℤ neg_ℤ b.1) (pos 0) && all_hold v (bound_facts (x + 1) bounds))) low
    ∙ ap (λ a. a && all_hold v (bound_facts (x + 1) bounds)) high ∙ rest

-- a formula that is refuted has no solution in the box
pub refuted : (f : Formula) (box : Boxed) (r : Refutation) → checks f box r ≡ true → Solvable f box → ⊥
refuted f box r h solution =
    (refutes_sound (length box.bounds) r.steps (root_facts f box ∷ []) solution.0 h).0
    (all_hold-append solution.0 (bound_facts 0 box.bounds) (facts_of f)
    (bounds_hold solution.0 0 box.bounds
    (λ k low high at. subst (λ n. (low ≤ℤ solution.0 n) × (solution.0 n ≤ℤ high)) (omega arith) (solution.1 k low high at)))
    ((is_told f).1 solution.0 solution.2))
