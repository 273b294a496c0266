-- Digits, and what they stand for.
use Rattle.std.proofs.Common.{◌≡◌, ℕ, ◌+◌, ◌-◌, ◌*◌, ◌/◌, ◌%◌, ◌^◌, ◌<◌, ◌≤◌, Bool, true, false, not, ◌&&◌, ◌||◌, nat_le, nat_lt, ◌==◌}
use Rattle.std.proofs.Common.{inl, inr, [], ◌∷◌, ◌++◌, Option, Some, None, refl, ap, ◌∙◌, sym, arith, decimal, true≢false, if◌then◌else◌}
use Rattle.std.proofs.lemmas.Bool.{cases_lt, cond_both, leb-true, le-leb, lt-ltb, le-ltb, ne_eqb}
use Rattle.std.proofs.lemmas.Bool.Decides.{nat_tests}
use Rattle.ipg_reader.specs.Digits.{is_digit, digit_value, digit_is, digit_more, not_zero}
use Rattle.ipg_edit_script.specs.Scripts.{hex_digit}
use Rattle.ipg_edit_script.specs.Reader.{is_hex, hex_value, byte_of, grown}

-- ---- decimal

both_parts : (a b : Bool) → (a && b) ≡ true → (a ≡ true) × (b ≡ true)
both_parts true b h = (refl, h)
both_parts false b h = absurd (true≢false (sym h))

-- what a number is with one digit more, if anything
abbrev pub IsMore : ℕ → ℕ → Option ℕ → Type 0
IsMore k b None = Unit {0}
IsMore k b (Some v) = (v < 2 ^ 32) × (decimal k ++ b ∷ [] ≡ decimal v)

pub is_more : (k b : ℕ) → is_digit b ≡ true → IsMore k b (grown k (k * 10 + digit_value b))
is_more k b digit =
    let v = k * 10 + digit_value b in
    cond_both (not (k == 0) && nat_le v (2 ^ 32 - 1)) (Some v) None (IsMore k b)
    (λ grows.
    let (some, small) = both_parts (not (k == 0)) (nat_le v (2 ^ 32 - 1)) grows in
    let within : v ≤ 2 ^ 32 - 1 = leb-true v (2 ^ 32 - 1) small in
    ((let e : v < 2 ^ 32 = omega (arith, within) in e), digit_more k b (not_zero k some) (let e : v < 2 ^ 64 = omega (arith, within) in e) digit))
    (λ none. tt)

pub grown_to : (m : ℕ) → 10 ≤ m → m < 2 ^ 32 → grown (m / 10) (m / 10 * 10 + digit_value (48 + m % 10)) ≡ Some m
grown_to m large small =
    let value = (digit_is (m % 10) (omega arith)).1 in
    let some : not (m / 10 == 0) ≡ true = ap not (ne_eqb (m / 10) 0 (λ e. let f : ⊥ = omega (arith, e) in f)) in
    let sum : m / 10 * 10 + digit_value (48 + m % 10) ≡ m = omega (arith, value) in
    ap (λ v. grown (m / 10) v) sum
    ∙ ap (λ c. if c && nat_le m (2 ^ 32 - 1) then Some m else None) some
    ∙ ap (λ c. if c then Some m else None) (le-leb m (2 ^ 32 - 1) (let e : m ≤ 2 ^ 32 - 1 = omega arith in e))

-- ---- of bytes

-- a digit of a byte, from 0 to 15, and how it is written
pub record IsHex (b : ℕ) : Type 0 where
  pub small : hex_value b < 16
  pub written : hex_digit (hex_value b) ≡ b

low_hex : (b : ℕ) → is_digit b ≡ true → IsHex b
low_hex b e =
    let range : (48 ≤ b) × (b ≤ 57) = grind (arith, nat_tests) in
    let value : hex_value b ≡ b - 48 = ap (λ c. if c then b - 48 else b - 87) e in
    let below : nat_lt (b - 48) 10 ≡ true = lt-ltb (b - 48) 10 (omega arith) in
    record {
      small = (let f : hex_value b < 16 = omega (arith, value) in f);
      written = ap hex_digit value ∙ ap (λ c. if c then 48 + (b - 48) else 87 + (b - 48)) below ∙ (let f : 48 + (b - 48) ≡ b = omega arith in f);
    }

high_hex : (b : ℕ) → is_digit b ≡ false → is_hex b ≡ true → IsHex b
high_hex b other e =
    let range : (97 ≤ b) × (b ≤ 102) = grind (arith, nat_tests) in
    let value : hex_value b ≡ b - 87 = ap (λ c. if c then b - 48 else b - 87) other in
    let above : nat_lt (b - 87) 10 ≡ false = le-ltb (b - 87) 10 (omega arith) in
    record {
      small = (let f : hex_value b < 16 = omega (arith, value) in f);
      written = ap hex_digit value ∙ ap (λ c. if c then 48 + (b - 87) else 87 + (b - 87)) above ∙ (let f : 87 + (b - 87) ≡ b = omega arith in f);
    }

pub hex_of : (b : ℕ) → is_hex b ≡ true → IsHex b
hex_of b e = by_case (is_digit b) refl
  where
    by_case : (c : Bool) → is_digit b ≡ c → IsHex b
    by_case true is = low_hex b is
    by_case false is = high_hex b is e

-- the digit of a number below 16
pub record IsDigitOf (h : ℕ) : Type 0 where
  pub digit : is_hex (hex_digit h) ≡ true
  pub value : hex_value (hex_digit h) ≡ h

pub digit_of : (h : ℕ) → h < 16 → IsDigitOf h
digit_of h small = elim (cases_lt h 10) [
  | inl less ↦
      let written : hex_digit h ≡ 48 + h = ap (λ c. if c then 48 + h else 87 + h) (lt-ltb h 10 less) in
      low h less written
  | inr more ↦
      let written : hex_digit h ≡ 87 + h = ap (λ c. if c then 48 + h else 87 + h) (le-ltb h 10 more) in
      high h small more written
]
  where
    low : (h : ℕ) → h < 10 → hex_digit h ≡ 48 + h → IsDigitOf h
    low h less written =
        let digit = digit_is h less in
        record {
          digit = ap is_hex written ∙ ap (λ c. c || (nat_le 97 (48 + h) && nat_le (48 + h) 102)) digit.0;
          value = ap hex_value written ∙ ap (λ c. if c then 48 + h - 48 else 48 + h - 87) digit.0 ∙ digit.1;
        }

    high : (h : ℕ) → h < 16 → 10 ≤ h → hex_digit h ≡ 87 + h → IsDigitOf h
    high h small more written =
        let other : is_digit (87 + h) ≡ false = grind (arith, nat_tests) in
        let letter = nat_le 97 (87 + h) && nat_le (87 + h) 102 in
        let is_letter : letter ≡ true = grind (arith, nat_tests) in
        record {
          digit = ap is_hex written ∙ ap (λ c. c || letter) other ∙ is_letter;
          value = ap hex_value written ∙ ap (λ c. if c then 87 + h - 48 else 87 + h - 87) other ∙ (let e : 87 + h - 87 ≡ h = omega arith in e);
        }

-- two digits below 16 are those of their byte
pub record AreOf (one two : ℕ) : Type 0 where
  pub small : byte_of one two < 256
  pub high : byte_of one two / 16 ≡ one
  pub low : byte_of one two % 16 ≡ two

pub are_of : (one two : ℕ) → one < 16 → two < 16 → AreOf one two
are_of one two first second = record {
  small = (let e : one % 16 * 16 + two % 16 < 256 = omega arith in e);
  high = (let e : (one % 16 * 16 + two % 16) / 16 ≡ one = omega (arith, first, second) in e);
  low = (let e : (one % 16 * 16 + two % 16) % 16 ≡ two = omega (arith, first, second) in e);
}

pub byte_back : (b : ℕ) → b < 256 → byte_of (b / 16) (b % 16) ≡ b
byte_back b small = let e : b / 16 % 16 * 16 + b % 16 % 16 ≡ b = omega (arith, small) in e
