-- The sizes of totals, and a term more in a sum.
use Rattle.std.proofs.Common.{◌≡◌, ℕ, suc, ◌+◌, ◌-◌, ◌*◌, ◌^◌, ◌≤◌, true, false, cond, ◌&&◌, nat_eq, nat_le, nat_lt, ℤ, pos}
use Rattle.std.proofs.Common.{negsuc, ◌+ℤ◌, ◌*ℤ◌, List, [], ◌∷◌, length, get_or, take, drop, refl, ◌∙◌, ap, arith}
use Rattle.std.specs.Int.RustNames.{unsigned_abs}
use Rattle.std.proofs.Math.Nat.{mul-le-mul_left, mul-le-mul_right}
use Rattle.std.proofs.lemmas.List.{take_all}
use Rattle.std.proofs.lemmas.Int.{ints, unsigned_abs-mul}
use borrow.Author.Tests.{leb-true}
use borrow.Author.Differences.{same_in, product_is}
use Rattle.ipg_lin.specs.Form.{are_coefficients}
use Rattle.ipg_cert.specs.Checks.{coefficient}
use Rattle.ipg_cert.specs.Totals.{total_at, AddsAt, AddsTerms, AreWithin}
use Rattle.std.proofs.lemmas.Bool.{and_parts}
use Rattle.ipg_cert.proofs.Sums.{plus_times_right}

pub abs_add : (a b : ℤ) → unsigned_abs (a +ℤ b) ≤ unsigned_abs a + unsigned_abs b
abs_add (pos a) (pos b) = omega (arith, ints)
abs_add (pos a) (negsuc b) = omega (arith, ints)
abs_add (negsuc a) (pos b) = omega (arith, ints)
abs_add (negsuc a) (negsuc b) = omega (arith, ints)

pub is_small : (n : ℕ) → (nat_lt 0 n && nat_le n (2 ^ 40)) ≡ true → n ≤ 2 ^ 40
is_small n h = leb-true n (2 ^ 40) (and_parts (nat_lt 0 n) (nat_le n (2 ^ 40)) h).1

coefficient_size : (x : ℕ) (terms : List (ℕ × ℤ)) → are_coefficients terms ≡ true → unsigned_abs (coefficient x terms) ≤ length terms * 2 ^ 40
coefficient_size x [] h = omega arith
coefficient_size x (t ∷ terms) h =
    let rest : unsigned_abs (coefficient x terms) ≤ length terms * 2 ^ 40 = coefficient_size x terms (and_parts _ _ h).1 in
    let small : unsigned_abs t.1 ≤ 2 ^ 40 = is_small (unsigned_abs t.1) (and_parts _ _ h).0 in
    elim (nat_eq t.0 x) as (λ b. unsigned_abs (cond b t.1 (pos 0) +ℤ coefficient x terms) ≤ suc (length terms) * 2 ^ 40) [
      | true ↦ omega (arith, abs_add t.1 (coefficient x terms))
      | false ↦ omega (arith, abs_add (pos 0) (coefficient x terms))
    ]

-- w times at most 64 terms add at most 2^86 to a total
pub grown : (old new : List ℤ) (w : ℕ) (terms : List (ℕ × ℤ)) (most : ℕ) → w ≤ 2 ^ 40 → length terms ≤ 64 → are_coefficients terms ≡ true
    → AddsTerms old new w terms → AreWithin most old → AreWithin (most + 2 ^ 86) new
grown old new w terms most light few small adds within x =
    let c = coefficient x terms in
    omega (
      arith,
      ap unsigned_abs (adds x),
      abs_add (pos w *ℤ c) (total_at old x),
      unsigned_abs-mul (pos w) c,
      within x,
      mul-le-mul_left w (coefficient_size x terms small),
      mul-le-mul_right (length terms * 2 ^ 40) light,
    )

-- the terms behind the first
abbrev pub others : List (ℕ × ℤ) → List (ℕ × ℤ)
others terms = take (length terms - 1) (drop 1 terms)

others-cons : (t : ℕ × ℤ) (ts : List (ℕ × ℤ)) → others (t ∷ ts) ≡ ts
others-cons t ts = take_all (length (t ∷ ts) - 1) ts (omega arith)

pub first_small : (terms : List (ℕ × ℤ)) → 1 ≤ length terms → are_coefficients terms ≡ true → unsigned_abs (get_or terms 0 (0, pos 0)).1 ≤ 2 ^ 40
first_small [] some h = absurd (omega arith)
first_small (t ∷ ts) some h = is_small (unsigned_abs t.1) (and_parts _ _ h).0

pub others_small : (terms : List (ℕ × ℤ)) → are_coefficients terms ≡ true → are_coefficients (others terms) ≡ true
others_small [] h = refl
others_small (t ∷ ts) h = ap are_coefficients (others-cons t ts) ∙ (and_parts _ _ h).1

-- a term in front of those that were added
pub adds_more : (old mid new : List ℤ) (w : ℕ) (terms : List (ℕ × ℤ)) → 1 ≤ length terms → AddsTerms old mid w (others terms)
    → AddsAt mid new (get_or terms 0 (0, pos 0)).0 (pos w *ℤ (get_or terms 0 (0, pos 0)).1) → AddsTerms old new w terms
adds_more old mid new w [] some rest adds = absurd (omega arith)
adds_more old mid new w (t ∷ terms) some rest adds = λ x.
    adds x ∙ ap (λ z. cond (nat_eq t.0 x) (pos w *ℤ t.1) (pos 0) +ℤ z) (rest x ∙ ap (λ ts. (pos w *ℤ coefficient x ts) +ℤ total_at old x) (others-cons t terms))
    ∙ elim (nat_eq t.0 x) as (λ b. cond b (pos w *ℤ t.1) (pos 0) +ℤ ((pos w *ℤ coefficient x terms) +ℤ total_at old x)
    ≡ (pos w *ℤ (cond b t.1 (pos 0) +ℤ coefficient x terms)) +ℤ total_at old x) [
      | true ↦ same_in _ _ (omega (arith, ints, plus_times_right (pos w) t.1 (coefficient x terms)))
      | false ↦ same_in _ _ (omega (arith, ints, plus_times_right (pos w) (pos 0) (coefficient x terms), product_is (pos w) (pos 0)))
    ]
