-- A difference by its shape: how often it takes each variable, and what it comes to.
use Rattle.std.proofs.Common.{◌≡◌, ℕ, ◌+◌, ◌<◌, ◌≤◌, max, inl, inr, true, false, ◌&&◌, cond, nat_eq, ℤ, pos, negsuc, ◌+ℤ◌, ◌-ℤ◌, List, [], ◌∷◌, refl}
use Rattle.std.proofs.Common.{sym, ◌∙◌, ap, subst, arith}
use Rattle.std.specs.Ordering.{int_eq}
use Rattle.std.proofs.lemmas.Int.{ints}
use Rattle.std.proofs.lemmas.Bool.{and_parts, or_cases}
use Rattle.std.proofs.lemmas.Bool.Decides.{Decides-int_eq, nat_tests}
use borrow.Author.Differences.{same_in, product_is}
use Rattle.ipg_lin.specs.Form.{Assignment, sum_at, terms_width}
use Rattle.ipg_cert.specs.Checks.{coefficient}
use Rattle.ipg_solve_potentials.specs.Falls.{level_at}
use Rattle.ipg_solve.specs.Differences.{is_one, is_minus_one, is_difference}
use Rattle.ipg_solve.specs.Edges.{node_of}

one_is : (z : ℤ) → is_one z ≡ true → z ≡ pos 1
one_is z = (Decides-int_eq z (pos 1)).0

minus_one_is : (z : ℤ) → is_minus_one z ≡ true → z ≡ negsuc 0
minus_one_is z = (Decides-int_eq z (negsuc 0)).0

-- what holds of each shape holds of each difference
record Shaped (P : List (ℕ × ℤ) → Type 0) : Type 0 where
  none : P []
  plus : (x : ℕ) → P ((x, pos 1) ∷ [])
  minus : (x : ℕ) → P ((x, negsuc 0) ∷ [])
  plus_minus : (x y : ℕ) → P ((x, pos 1) ∷ (y, negsuc 0) ∷ [])
  minus_plus : (x y : ℕ) → P ((x, negsuc 0) ∷ (y, pos 1) ∷ [])

by_shape : (P : List (ℕ × ℤ) → Type 0) → Shaped P → (terms : List (ℕ × ℤ)) → is_difference terms ≡ true → P terms
by_shape P s [] h = s.none
by_shape P s (t ∷ []) h =
    elim (or_cases (is_one t.1) (is_minus_one t.1) h) [
      | inl a ↦ subst (λ z. P ((t.0, z) ∷ [])) (sym (one_is t.1 a)) (s.plus t.0)
      | inr a ↦ subst (λ z. P ((t.0, z) ∷ [])) (sym (minus_one_is t.1 a)) (s.minus t.0)
    ]
by_shape P s (t ∷ u ∷ []) h =
    elim (or_cases (is_one t.1 && is_minus_one u.1) (is_minus_one t.1 && is_one u.1) h) [
      | inl a ↦
          let b = and_parts (is_one t.1) (is_minus_one u.1) a in
          subst (λ z. P ((t.0, z) ∷ u ∷ [])) (sym (one_is t.1 b.0)) (subst (λ z. P ((t.0, pos 1) ∷ (u.0, z) ∷ [])) (sym (minus_one_is u.1 b.1))
          (s.plus_minus t.0 u.0))
      | inr a ↦
          let b = and_parts (is_minus_one t.1) (is_one u.1) a in
          subst (λ z. P ((t.0, z) ∷ u ∷ [])) (sym (minus_one_is t.1 b.0)) (subst (λ z. P ((t.0, negsuc 0) ∷ (u.0, z) ∷ [])) (sym (one_is u.1 b.1))
          (s.minus_plus t.0 u.0))
    ]
by_shape P s (t ∷ u ∷ v ∷ terms) h = absurd (cc)

-- 1 at the variable's own node
abbrev pub unit : ℕ → ℕ → ℤ
unit y node = cond (nat_eq node (y + 1)) (pos 1) (pos 0)

same_test : (x y : ℕ) → nat_eq (x + 1) (y + 1) ≡ nat_eq x y
same_test x y = grind (arith, nat_tests)

ground_unit : (y : ℕ) → unit y 0 ≡ pos 0
ground_unit y = let e : nat_eq 0 (y + 1) ≡ false = grind (arith, nat_tests) in ap (λ b. cond b (pos 1) (pos 0)) e

plus_taken : (x y : ℕ) → cond (nat_eq x y) (pos 1) (pos 0) ≡ unit y (x + 1)
plus_taken x y = ap (λ b. cond b (pos 1) (pos 0)) (sym (same_test x y))

minus_taken : (x y : ℕ) → cond (nat_eq x y) (negsuc 0) (pos 0) +ℤ unit y (x + 1) ≡ pos 0
minus_taken x y =
    ap (λ z. cond (nat_eq x y) (negsuc 0) (pos 0) +ℤ z) (sym (plus_taken x y))
    ∙ elim (nat_eq x y) as (λ b. cond b (negsuc 0) (pos 0) +ℤ cond b (pos 1) (pos 0) ≡ pos 0) [ true ↦ refl | false ↦ refl ]

abbrev IsTaken : ℕ → List (ℕ × ℤ) → Type 0
IsTaken y terms = coefficient y terms +ℤ unit y (node_of (negsuc 0) terms) ≡ unit y (node_of (pos 1) terms)

-- a difference takes the variable of its edge's end once, and that of its start -1 times
pub taken : (terms : List (ℕ × ℤ)) → is_difference terms ≡ true → (y : ℕ) → IsTaken y terms
taken terms h y =
    by_shape (IsTaken y) (record {
      none = same_in _ _ (omega (arith, ints));
      plus = λ x. same_in _ _ (omega (arith, ints, plus_taken x y, ground_unit y));
      minus = λ x. same_in _ _ (omega (arith, ints, minus_taken x y, ground_unit y));
      plus_minus = λ x z. same_in _ _ (omega (arith, ints, plus_taken x y, minus_taken z y));
      minus_plus = λ x z. same_in _ _ (omega (arith, ints, minus_taken x y, plus_taken z y));
    }) terms h

-- each variable has its level above the ground
abbrev pub AreLevels : ℕ → List ℤ → Assignment → Type 0
AreLevels vars levels values = (x : ℕ) → x < vars → values x ≡ level_at levels (x + 1) -ℤ level_at levels 0

abbrev IsValued : ℕ → List ℤ → Assignment → List (ℕ × ℤ) → Type 0
IsValued vars levels values terms = terms_width terms ≤ vars
    → sum_at values terms +ℤ level_at levels (node_of (negsuc 0) terms) ≡ level_at levels (node_of (pos 1) terms)

-- a difference comes to the difference of the levels
pub valued : (vars : ℕ) (levels : List ℤ) (values : Assignment) → AreLevels vars levels values → (terms : List (ℕ × ℤ)) → is_difference terms ≡ true
    → IsValued vars levels values terms
valued vars levels values are =
    by_shape (IsValued vars levels values) (record {
      none = λ h. same_in _ _ (omega (arith, ints));
      plus = λ x h. same_in _ _ (omega (arith, ints, are x (omega arith), product_is (pos 1) (values x)));
      minus = λ x h. same_in _ _ (omega (arith, ints, are x (omega arith), product_is (negsuc 0) (values x)));
      plus_minus = λ x y h. same_in _ _
          (omega (arith, ints, are x (omega arith), are y (omega arith), product_is (pos 1) (values x), product_is (negsuc 0) (values y)));
      minus_plus = λ x y h. same_in _ _
          (omega (arith, ints, are x (omega arith), are y (omega arith), product_is (negsuc 0) (values x), product_is (pos 1) (values y)));
    })

pub node_below : (often : ℤ) (terms : List (ℕ × ℤ)) → node_of often terms ≤ terms_width terms
node_below often [] = omega arith
node_below often (t ∷ terms) =
    elim (int_eq t.1 often) as (λ b. cond b (t.0 + 1) (node_of often terms) ≤ max (t.0 + 1) (terms_width terms)) [
      | true ↦ omega arith
      | false ↦
          omega (arith, node_below often terms)
    ]
