-- What a number's text is, by the standard library's reading of it.
use Rattle.std.proofs.Common.{◌≡◌, ℕ, ◌<◌, ◌^◌, Bool, true, false, not, ◌&&◌, ◌==◌, nat_lt, nat_le, List, [], ◌∷◌, length, drop, cond, slice_index}
use Rattle.std.proofs.Common.{Some, None, Ok, refl, sym, ap, ◌∙◌, subst, arith, true≢false}
use Rattle.std.proofs.lemmas.Bool.{and_parts}
use Rattle.std.proofs.lemmas.Bool.Decides.{nat_tests}
use Rattle.std.specs.List.{list_all}
use Rattle.std.specs.Char.{digit_value}
use Rattle.std.specs.Str.Parse.{AllDigits, IsNumeral, digits_value, without_leading_plus, ParsesUnsigned}
use Rattle.clap.specs.ValueTests.{is_numeral}
use Rattle.ipg_app_words.specs.Settings.{number_in, within}
use Rattle.ipg_app_words.specs.Seen.{is_unsigned}

both : (a b : Bool) → a ≡ true → b ≡ true → (a && b) ≡ true
both true b e f = f
both false b e f = absurd (true≢false (sym e))

digits_test : (ds : List ℕ) → AllDigits 10 ds → list_all (λ d. nat_lt (digit_value d) 10) ds ≡ true
digits_test [] h = refl
digits_test (d ∷ ds) h =
    let here : nat_lt (digit_value d) 10 ≡ true = (let small = h.0 in grind (arith, nat_tests)) in
    both (nat_lt (digit_value d) 10) (list_all (λ d. nat_lt (digit_value d) 10) ds) here (digits_test ds h.1)

all_digits : (ds : List ℕ) → list_all (λ d. nat_lt (digit_value d) 10) ds ≡ true → AllDigits 10 ds
all_digits [] e = tt
all_digits (d ∷ ds) e =
    let parts = and_parts (nat_lt (digit_value d) 10) (list_all (λ d. nat_lt (digit_value d) 10) ds) e in
    let test : nat_lt (digit_value d) 10 ≡ true = parts.0 in
    (grind (arith, nat_tests), all_digits ds parts.1)

numeral_test : (ds : List ℕ) → IsNumeral 10 ds → is_numeral ds ≡ true
numeral_test ds h =
    let some : nat_lt 0 (length ds) ≡ true = (let least = h.0 in grind (arith, nat_tests)) in
    both (nat_lt 0 (length ds)) (list_all (λ d. nat_lt (digit_value d) 10) ds) some (digits_test ds h.1)

is_a_numeral : (ds : List ℕ) → is_numeral ds ≡ true → IsNumeral 10 ds
is_a_numeral ds e =
    let parts = and_parts (nat_lt 0 (length ds)) (list_all (λ d. nat_lt (digit_value d) 10) ds) e in
    let test : nat_lt 0 (length ds) ≡ true = parts.0 in
    (grind (arith, nat_tests), all_digits ds parts.1)

-- no plus to leave out
no_plus : (text : List ℕ) → is_unsigned text ≡ true → without_leading_plus text ≡ text
no_plus text e = by (slice_index text 0 == 43) e
  where
    by : (b : Bool) → not b ≡ true → drop (cond b 1 0) text ≡ text
    by false e = refl
    by true e = absurd (true≢false (sym e))

-- a number that is read
pub read : (least most : ℕ) (text : List ℕ) (n : ℕ) → is_unsigned text ≡ true → ParsesUnsigned {E = ℕ} 32 10 text (Ok n)
    → within least most n ≡ number_in least most text
read least most text n plain h =
    let same = no_plus text plain in
    let numeral : IsNumeral 10 text = subst (λ t. IsNumeral 10 t) same h.0.0 in
    let value : n ≡ digits_value 10 text = h.1 ∙ ap (digits_value 10) same in
    ap (within least most) value ∙ sym (ap (λ b. cond b (within least most (digits_value 10 text)) None) (numeral_test text numeral))

-- what is past the most isn't within
past : (least most n : ℕ) → nat_le n most ≡ false → within least most n ≡ None
past least most n e = by (nat_le least n) (nat_le n most) e
  where
    by : (a b : Bool) → b ≡ false → cond (a && b) (Some n) None ≡ None
    by true b e = ap (λ b. cond b (Some n) None) e
    by false b e = refl

-- a text that isn't read as a number of 32 bits
pub not_read : (least most : ℕ) (text : List ℕ) → most < 2 ^ 32 → is_unsigned text ≡ true
    → ¬ (IsNumeral 10 (without_leading_plus text) × (digits_value 10 (without_leading_plus text) < 2 ^ 32))
    → None ≡ number_in least most text
not_read least most text below plain h = by (is_numeral text) refl
  where
    large : is_numeral text ≡ true → nat_le (digits_value 10 text) most ≡ false
    large e =
        by_size (nat_le (digits_value 10 text) most) refl
      where
        by_size : (b : Bool) → nat_le (digits_value 10 text) most ≡ b → b ≡ false
        by_size false f = refl
        by_size true f =
            let numeral = is_a_numeral text e in
            let small : digits_value 10 text < 2 ^ 32 = grind (arith, nat_tests) in
            absurd (h (subst (λ t. IsNumeral 10 t × (digits_value 10 t < 2 ^ 32)) (sym (no_plus text plain)) (numeral, small)))

    by : (b : Bool) → is_numeral text ≡ b → None ≡ cond b (within least most (digits_value 10 text)) None
    by false e = refl
    by true e = sym (past least most (digits_value 10 text) (large e))
