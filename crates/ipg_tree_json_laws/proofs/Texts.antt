-- Where one text comes apart in one way: behind the same front, and at the first byte that its front can't have.
use Rattle.std.proofs.Common.{◌≡◌, ◌≢◌, ℕ, zero, suc, ◌+◌, ◌/◌, ◌%◌, ◌<◌, ◌≤◌, Bool, true, false, cond, eqb, ltb, List, [], ◌∷◌}
use Rattle.std.proofs.Common.{◌++◌, length, ℤ, pos, negsuc, refl, ap, ◌∙◌, sym, subst, arith, append_assoc, mod-lt, decimal}
use Rattle.std.specs.List.{AllByRecursion}
use Rattle.std.specs.Fmt.{digits, digits_onto, digit_glyph, signed_decimal}
use Rattle.std.proofs.lemmas.List.{append_cancel_left}
use Rattle.std.proofs.lemmas.Bool.{eqb-true, eq-eqb}
use Rattle.ipg_tree_json_laws.specs.Laws.{IsUnquoted}

-- of two lists that are one, the first elements and the rest
pub same_both : {x y : ℕ} {r s : List ℕ} → x ∷ r ≡ y ∷ s → (x ≡ y) × (r ≡ s)
same_both e = (cc, cc)

-- what is behind the same front
pub front : (a x y r s : List ℕ) → (a ++ x) ++ r ≡ (a ++ y) ++ s → x ++ r ≡ y ++ s
front a x y r s e = append_cancel_left a (x ++ r) (y ++ s) (sym (append_assoc a x r) ∙ e ∙ append_assoc a y s)

-- a text that begins with a byte that isn't so, or is empty
abbrev pub Stops : (ℕ → Type 0) → List ℕ → Type 0
Stops P [] = Unit {0}
Stops P (b ∷ text) = P b → ⊥

-- two texts of such bytes, each before a byte that isn't so
pub split : (P : ℕ → Type 0) (a b r s : List ℕ) → AllByRecursion P a → AllByRecursion P b → Stops P r → Stops P s
    → a ++ r ≡ b ++ s → (a ≡ b) × (r ≡ s)
split P [] [] r s pa pb stop other e = (refl, e)
split P [] (d ∷ b) r s pa pb stop other e = absurd (subst (Stops P) e stop pb.0)
split P (c ∷ a) [] r s pa pb stop other e = absurd (subst (Stops P) (sym e) other pa.0)
split P (c ∷ a) (d ∷ b) r s pa pb stop other e =
    let both = same_both e in
    let more = split P a b r s pa.1 pb.1 stop other both.1 in
    ((λ i. both.0 i ∷ more.0 i), more.1)

-- the same with what comes behind apart
pub split_in : (P : ℕ → Type 0) (a b x y r s : List ℕ) → AllByRecursion P a → AllByRecursion P b → Stops P (x ++ r) → Stops P (y ++ s)
    → (a ++ x) ++ r ≡ (b ++ y) ++ s → (a ≡ b) × (x ++ r ≡ y ++ s)
split_in P a b x y r s pa pb stop other e =
    split P a b (x ++ r) (y ++ s) pa pb stop other (sym (append_assoc a x r) ∙ e ∙ append_assoc b y s)

-- ---- words, which end at a quotation mark

pub word : (a b x y r s : List ℕ) → IsUnquoted a → IsUnquoted b → (a ++ (34 ∷ x)) ++ r ≡ (b ++ (34 ∷ y)) ++ s
    → (a ≡ b) × (34 ∷ (x ++ r) ≡ 34 ∷ (y ++ s))
word a b x y r s pa pb e = split_in (λ c. c ≢ 34) a b (34 ∷ x) (34 ∷ y) r s pa pb (λ h. h refl) (λ h. h refl) e

-- no byte is a quotation mark
abbrev pub unquoted : List ℕ → Bool
unquoted [] = true
unquoted (b ∷ text) = cond (eqb b 34) false (unquoted text)

unquoted_or : (t : Bool) (b : ℕ) (rest : Bool) → eqb b 34 ≡ t → cond t false rest ≡ true → (b ≢ 34) × (rest ≡ true)
unquoted_or true b rest is e = absurd (cc)
unquoted_or false b rest is e = ((λ same. let other : true ≡ false = sym (eq-eqb _ _ same) ∙ is in absurd (cc)), e)

-- a text that is spelled out
pub spelled : (text : List ℕ) → unquoted text ≡ true → IsUnquoted text
spelled [] e = tt
spelled (b ∷ text) e = let both = unquoted_or (eqb b 34) b (unquoted text) refl e in (both.0, spelled text both.1)

-- ---- numbers, which end at a comma or a brace

-- from `-` to `9`: all bytes of numbers lie there, a comma and a brace don't
abbrev pub IsOfNumber : ℕ → Type 0
IsOfNumber b = (45 ≤ b) × (b ≤ 57)

abbrev pub IsNumeral : List ℕ → Type 0
IsNumeral text = AllByRecursion IsOfNumber text

pub comma : IsOfNumber 44 → ⊥
comma d = omega (arith, d.0)

pub brace : IsOfNumber 125 → ⊥
brace d = omega (arith, d.1)

either : (t : Bool) (a b : List ℕ) → IsNumeral a → IsNumeral b → IsNumeral (cond t a b)
either true a b p q = p
either false a b p q = q

glyph : (t : Bool) (d : ℕ) → d < 10 → ltb d 10 ≡ t → IsOfNumber (cond t (48 + d) (87 + d))
glyph true d small is = (omega arith, omega (arith, small))
glyph false d small is = absurd (grind arith)

onto : (k n : ℕ) (text : List ℕ) → IsNumeral text → IsNumeral (digits_onto k 10 false n text)
onto zero n text p = p
onto (suc k) n text p =
    let more : IsNumeral (digit_glyph false (n % 10) ∷ text) = (glyph (ltb (n % 10) 10) (n % 10) (mod-lt n (omega arith)) refl, p) in
    either (eqb (n / 10) 0) _ _ more (onto k (n / 10) _ more)

pub decimal_is : (n : ℕ) → IsNumeral (decimal n)
unfolding digits
decimal_is n = onto 64 n [] tt

pub signed_is : (z : ℤ) → IsNumeral (signed_decimal z)
signed_is (pos n) = decimal_is n
signed_is (negsuc n) = ((omega arith, omega arith), decimal_is (suc n))

-- there is one digit at least
longer : (t : Bool) (text a b : List ℕ) → length text < length a → length text < length b → length text < length (cond t a b)
longer true text a b p q = p
longer false text a b p q = q

grows : (k n : ℕ) (text : List ℕ) → length text < length (digits_onto (suc k) 10 false n text)
grows zero n text =
    let here : length text < length (digit_glyph false (n % 10) ∷ text) = omega arith in
    longer (eqb (n / 10) 0) text _ _ here here
grows (suc k) n text =
    let more = grows k (n / 10) (digit_glyph false (n % 10) ∷ text) in
    longer (eqb (n / 10) 0) text _ _ (omega arith) (omega (arith, more))

glyph_zero : (t : Bool) (d : ℕ) → cond t (48 + d) (87 + d) ≡ 48 → d ≡ 0
glyph_zero true d e = omega (arith, e)
glyph_zero false d e = absurd (omega (arith, e))

zero_by : (t : Bool) (n : ℕ) → eqb (n / 10) 0 ≡ t
    → cond t (digit_glyph false (n % 10) ∷ []) (digits_onto 63 10 false (n / 10) (digit_glyph false (n % 10) ∷ [])) ≡ 48 ∷ [] → n ≡ 0
zero_by true n is e =
    let high : n / 10 ≡ 0 = eqb-true _ _ is in
    let low = glyph_zero (ltb (n % 10) 10) (n % 10) (same_both e).0 in
    omega (arith, high, low)
zero_by false n is e =
    let more = grows 62 (n / 10) (digit_glyph false (n % 10) ∷ []) in
    absurd (omega (arith, more, ap (λ (text : List ℕ). length text) e))

-- 0 alone is written as it is
pub zero_alone : (n : ℕ) → decimal n ≡ decimal 0 → n ≡ 0
unfolding digits
zero_alone n e = zero_by (eqb (n / 10) 0) n refl e
