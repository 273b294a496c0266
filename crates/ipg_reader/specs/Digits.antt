-- Decimal digits, and numbers that are written with them.
use Rattle.std.specs.Prelude.{◌≡◌, ℕ, zero, suc, ◌+◌, ◌-◌, ◌*◌, ◌/◌, ◌%◌, ◌^◌, ◌<◌, ◌≤◌, Bool, true, not, ◌&&◌, nat_le, ◌==◌}
use Rattle.std.specs.Prelude.{[], ◌∷◌, ◌++◌, decimal}
use Rattle.std.proofs.Common.{ap, ◌∙◌, sym, arith, true≢false}
use Rattle.std.proofs.lemmas.Bool.Decides.{nat_tests}
use Rattle.std.proofs.lemmas.Fmt.{decimal_digit, decimal_step}

-- `0` to `9`
abbrev pub is_digit : ℕ → Bool
is_digit b = nat_le 48 b && nat_le b 57

abbrev pub digit_value : ℕ → ℕ
digit_value b = b - 48

pub digit_is : (d : ℕ) → d < 10 → (is_digit (48 + d) ≡ true) × (digit_value (48 + d) ≡ d)
digit_is d less = (grind (arith, nat_tests), (let e : 48 + d - 48 ≡ d = omega arith in e))

pub one_digit : (b : ℕ) → is_digit b ≡ true → b ∷ [] ≡ decimal (digit_value b)
one_digit b e =
    let range : (48 ≤ b) × (b ≤ 57) = grind (arith, nat_tests) in
    let back : b ≡ 48 + (b - 48) = omega arith in
    ap (λ x. x ∷ []) back ∙ sym (decimal_digit (b - 48) (omega arith))

pub small_digit : (b : ℕ) → is_digit b ≡ true → digit_value b < 2 ^ 32
small_digit b e = let range : (48 ≤ b) × (b ≤ 57) = grind (arith, nat_tests) in omega arith

-- a number with one digit more
pub digit_more : (v b : ℕ) → 1 ≤ v → v * 10 + digit_value b < 2 ^ 64 → is_digit b ≡ true → decimal v ++ b ∷ [] ≡ decimal (v * 10 + digit_value b)
digit_more v b some small e =
    let range : (48 ≤ b) × (b ≤ 57) = grind (arith, nat_tests) in
    let first : v ≡ (v * 10 + (b - 48)) / 10 = omega arith in
    let end : b ≡ 48 + (v * 10 + (b - 48)) % 10 = omega arith in
    ap (λ k. decimal k ++ b ∷ []) first ∙ ap (λ x. decimal ((v * 10 + (b - 48)) / 10) ++ x ∷ []) end
    ∙ sym (decimal_step (v * 10 + (b - 48)) (omega arith) small)

pub not_zero : (k : ℕ) → not (k == 0) ≡ true → 1 ≤ k
not_zero zero e = absurd (true≢false (sym e))
not_zero (suc k) e = omega arith
