-- Boxes with other bounds of a variable.
use Rattle.std.proofs.Common.{◌≡◌, ℕ, zero, suc, ◌<◌, List, [], ◌∷◌, length, refl, sym, ap, subst, ◌∙◌, arith}
use Rattle.std.proofs.Common.{◌⊎◌, inl, inr, true, false, ℤ, Some}
use Rattle.std.specs.Prelude.{slice_get, slice_set, int_le, ◌≤ℤ◌, ◌<ℤ◌}
use Rattle.std.proofs.lemmas.Int.{ints}
use Rattle.ipg_lin.specs.Form.{Assignment}

abbrev pub Lies : Assignment → List (ℤ × ℤ) → Type 0
Lies values bounds = (x : ℕ) (low high : ℤ) → slice_get bounds x ≡ Some (low, high) → (low ≤ℤ values x) × (values x ≤ℤ high)

-- ---- a list with another item at a place

set_here : {A : Type 0} (items : List A) (i : ℕ) (y : A) → i < length items → slice_get (slice_set items i y) i ≡ Some y
set_here [] i y less = absurd (omega arith)
set_here (x ∷ items) zero y less = refl
set_here (x ∷ items) (suc i) y less = set_here items i y (omega arith)

set_there : {A : Type 0} (items : List A) (i j : ℕ) (y : A) → (i ≡ j → ⊥) → slice_get (slice_set items i y) j ≡ slice_get items j
set_there [] i j y other = refl
set_there (x ∷ items) zero zero y other = absurd (other refl)
set_there (x ∷ items) zero (suc j) y other = refl
set_there (x ∷ items) (suc i) zero y other = refl
set_there (x ∷ items) (suc i) (suc j) y other = set_there items i j y (λ e. other (ap suc e))

same_or_not : (i j : ℕ) → (i ≡ j) ⊎ (i ≡ j → ⊥)
same_or_not zero zero = inl refl
same_or_not zero (suc j) = inr (λ (e : 0 ≡ suc j). omega arith)
same_or_not (suc i) zero = inr (λ (e : suc i ≡ 0). omega arith)
same_or_not (suc i) (suc j) = elim (same_or_not i j) [ inl e ↦ inl (ap suc e) | inr other ↦ inr (λ e. other (omega (arith, e))) ]

-- ---- within bounds

of_same : (b c : ℤ × ℤ) (z : ℤ) → Some b ≡ Some c → (b.0 ≤ℤ z) × (z ≤ℤ b.1) → (c.0 ≤ℤ z) × (z ≤ℤ c.1)
of_same b c z e h = subst (λ (d : ℤ × ℤ). (d.0 ≤ℤ z) × (z ≤ℤ d.1)) (let same : b ≡ c = cc in same) h

between : (l m z n h : ℤ) → l ≤ℤ m → m ≤ℤ z → z ≤ℤ n → n ≤ℤ h → (l ≤ℤ z) × (z ≤ℤ h)
between l m z n h a b c d = (omega (arith, ints), omega (arith, ints))

module _ (values : Assignment) (bounds : List (ℤ × ℤ)) (x : ℕ) (some : x < length bounds) (low high : ℤ) where
  pub here : Lies values (slice_set bounds x (low, high)) → (low ≤ℤ values x) × (values x ≤ℤ high)
  here lies = lies x low high (set_here bounds x (low, high) some)

  -- bounds that are no wider
  pub wider : ((l h : ℤ) → slice_get bounds x ≡ Some (l, h) → (l ≤ℤ low) × (high ≤ℤ h)) → Lies values (slice_set bounds x (low, high)) → Lies values bounds
  wider in_range lies y l h e = elim (same_or_not x y) [
    | inl same ↦
        let range = in_range l h (ap (slice_get bounds) same ∙ e) in
        let at = here lies in
        subst (λ (k : ℕ). (l ≤ℤ values k) × (values k ≤ℤ h)) same (between l low (values x) high h range.0 at.0 at.1 range.1)
    | inr other ↦ lies y l h (set_there bounds x y (low, high) other ∙ e)
  ]

  -- bounds that the value keeps
  pub narrower : low ≤ℤ values x → values x ≤ℤ high → Lies values bounds → Lies values (slice_set bounds x (low, high))
  narrower h k lies y l r e = elim (same_or_not x y) [
    | inl same ↦
        subst (λ (n : ℕ). (l ≤ℤ values n) × (values n ≤ℤ r)) same
        (of_same (low, high) (l, r) (values x) (sym (set_here bounds x (low, high) some) ∙ ap (slice_get (slice_set bounds x (low, high))) same ∙ e) (h, k))
    | inr other ↦ lies y l r (sym (set_there bounds x y (low, high) other) ∙ e)
  ]

-- ---- whether one number is at most another

pub le_true : (y z : ℤ) → int_le y z ≡ true → y ≤ℤ z
le_true y z e = grind (arith, ints)

pub le_false : (y z : ℤ) → int_le y z ≡ false → z <ℤ y
le_false y z e = grind (arith, ints)
