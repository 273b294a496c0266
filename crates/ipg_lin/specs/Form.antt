-- Linear forms over whole numbers without limits.
use Rattle.std.specs.Prelude.{ℕ, ◌+◌, ◌^◌, Bool, true, ◌&&◌, max, nat_le, nat_lt, ℤ, pos, ◌+ℤ◌, ◌*ℤ◌, List, [], ◌∷◌, length}
use Rattle.std.specs.List.{list_all}
use Rattle.std.specs.Int.RustNames.{unsigned_abs}

-- a sum of multiples of variables, and a constant: each term is a variable and its coefficient
pub record Form : Type 0 where
  pub terms : List (ℕ × ℤ)
  pub constant : ℤ

-- a value for each variable
abbrev pub Assignment : Type 0
Assignment = ℕ → ℤ

-- the sum of the terms, where each variable x is `values x`
abbrev pub sum_at : Assignment → List (ℕ × ℤ) → ℤ
sum_at values [] = pos 0
sum_at values (term ∷ terms) = (term.1 *ℤ values term.0) +ℤ sum_at values terms

abbrev pub value_at : Assignment → Form → ℤ
value_at values form = sum_at values form.terms +ℤ form.constant

-- not 0, and at most 2^40 in size
abbrev pub is_coefficient : ℤ → Bool
is_coefficient z = nat_lt 0 (unsigned_abs z) && nat_le (unsigned_abs z) (2 ^ 40)

-- the variables rise, the least is `from` or above it
abbrev pub rises : ℕ → List (ℕ × ℤ) → Bool
rises from [] = true
rises from (term ∷ terms) = nat_le from term.0 && rises (term.0 + 1) terms

abbrev pub are_coefficients : List (ℕ × ℤ) → Bool
are_coefficients terms = list_all (λ term. is_coefficient term.1) terms

-- the rule of a linear form's terms
abbrev pub in_rule : List (ℕ × ℤ) → Bool
in_rule terms = nat_le (length terms) 64 && (rises 0 terms && are_coefficients terms)

-- every variable of the terms is below this number, and the number is the least such
abbrev pub terms_width : List (ℕ × ℤ) → ℕ
terms_width [] = 0
terms_width (term ∷ terms) = max (term.0 + 1) (terms_width terms)
