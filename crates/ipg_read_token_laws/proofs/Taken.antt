-- What is taken at the front is spelled there.
use Rattle.std.proofs.Common.{◌≡◌, ◌≢◌, ℕ, suc, ◌+◌, ◌≤◌, ◌^◌, true, not, ◌&&◌, ◌||◌, ◌==◌, List, [], ◌∷◌, ◌++◌, Option, Some, None, take, drop}
use Rattle.std.proofs.Common.{length, refl, ap, ◌∙◌, sym, subst, arith, inl, inr, true≢false}
use Rattle.std.specs.Prelude.{nat_lt, codes, pos}
use Rattle.std.specs.List.{list_all}
use Rattle.std.proofs.lemmas.Bool.{eqb-true, ltb-false}
use Rattle.ipg_ast.specs.declared.token.TokenKind.TheVariants.{Name, Text}
use Rattle.ipg_read_tokens.specs.declared.front.Front.{Front}
use Rattle.ipg_read_tokens.specs.declared.front.Front.TheVariants.{Nothing, Blank, Large, Token as Begins}
use Rattle.ipg_read_tokens.specs.declared.class.Class.{Class}
use Rattle.ipg_read_tokens.specs.declared.class.Class.TheVariants.{White, Comment, Naming, Digit, Hexadecimal}
use Rattle.ipg_read_tokens.specs.Lexical.{Quoted, quoted, in_class, run, is_white, is_letter, is_digit, is_hexadecimal, is_prefixed, is_pair, is_single}
use Rattle.ipg_read_tokens.specs.Lexical.{reserved_of, value, below_limit, front_of_value, hexadecimal_front, number_front, text_front}
use Rattle.ipg_read_tokens.specs.Lexical.{symbol_front, single_front, name_front, front_of}
use Rattle.ipg_read_tokens.specs.Shaped.{IsToken, is_free, is_name}
use Rattle.ipg_read_token_laws.specs.Forms.{SomeOf, Numeral, Spells, IsBlank}
use Rattle.ipg_read_token_laws.proofs.Bytes.{both, choose, name_or_word}
use Rattle.ipg_read_token_laws.proofs.Runs.{run_fits, one_run, run_all}
use Rattle.ipg_read_token_laws.proofs.Texts.{Closed, closed, closes_bytes}

abbrev pub IsSound : Front → List ℕ → Type 0
IsSound Nothing bs = Unit {0}
IsSound (Blank n) bs = (n ≤ length bs) × IsBlank (take n bs)
IsSound (Large n) bs = (n ≤ length bs) × ((v : ℕ) × Numeral v (take n bs) × (2 ^ 63 ≤ v))
IsSound (Begins kind n) bs = (n ≤ length bs) × Spells kind (take n bs) × IsToken kind

some_run : (class : Class) (b : ℕ) (bs : List ℕ) → in_class class b ≡ true
    → SomeOf (in_class class) (take (run class (b ∷ bs)) (b ∷ bs))
some_run class b bs here =
    (subst (λ n. take n (b ∷ bs) ≢ []) (one_run class b bs here) (λ e. cc), run_all class (b ∷ bs))

name_sound : (b : ℕ) (bs : List ℕ) → is_letter b ≡ true → IsSound (name_front (b ∷ bs)) (b ∷ bs)
name_sound b bs letter =
    let n = run Naming (b ∷ bs) in
    let name = take n (b ∷ bs) in
    let named : is_name name ≡ true =
    subst (λ k. is_name (take k (b ∷ bs)) ≡ true) (one_run Naming b bs (ap (λ v. v || is_digit b) letter))
    (ap (λ v. v && list_all (in_class Naming) (take (run Naming bs) bs)) letter ∙ run_all Naming bs) in
    name_or_word name (λ kind. IsSound (Begins kind n) (b ∷ bs))
    (λ free.
    let is : IsToken (Name name) = ap (λ v. v && is_free (reserved_of name)) named ∙ free in
    (run_fits Naming (b ∷ bs), (refl, is), is))
    (λ w spelled. (run_fits Naming (b ∷ bs), spelled, refl))

value_sound : (v n : ℕ) (bs : List ℕ) → n ≤ length bs → Numeral v (take n bs) → IsSound (front_of_value (below_limit v) n) bs
value_sound v n bs fits numeral =
    choose (λ o. IsSound (front_of_value o n) bs) (nat_lt v (2 ^ 63)) (Some (pos v)) None
    (λ small. (fits, numeral, small)) (λ large. (fits, (v, numeral, ltb-false v (2 ^ 63) large)))

hexadecimal_sound : (bs : List ℕ) → is_prefixed bs ≡ true → IsSound (hexadecimal_front (drop 2 bs)) bs
hexadecimal_sound [] marked = absurd (true≢false (sym marked))
hexadecimal_sound (a ∷ []) marked = absurd (true≢false (sym marked))
hexadecimal_sound (a ∷ x ∷ []) marked = absurd (true≢false (sym marked))
hexadecimal_sound (a ∷ x ∷ c ∷ bs) marked =
    let (first, digit) = both (a == 48 && x == 120) (is_hexadecimal c) marked in
    let (zero, mark) = both (a == 48) (x == 120) first in
    let n = run Hexadecimal (c ∷ bs) in
    let digits = take n (c ∷ bs) in
    let fits : n ≤ length (c ∷ bs) = run_fits Hexadecimal (c ∷ bs) in
    let width : n + 2 ≡ suc (suc n) = omega arith in
    let text : take (n + 2) (a ∷ x ∷ c ∷ bs) ≡ codes "0x" ++ digits =
    ap (λ k. take k (a ∷ x ∷ c ∷ bs)) width ∙ ap (λ y. y ∷ x ∷ digits) (eqb-true a 48 zero) ∙ ap (λ y. 48 ∷ y ∷ digits) (eqb-true x 120 mark) in
    value_sound (value 16 0 digits) (n + 2) (a ∷ x ∷ c ∷ bs) (omega (arith, fits))
    (inr (digits, text, some_run Hexadecimal c bs digit, refl))

number_sound : (b : ℕ) (bs : List ℕ) → is_digit b ≡ true → IsSound (number_front (b ∷ bs)) (b ∷ bs)
number_sound b bs digit =
    choose (λ f. IsSound f (b ∷ bs)) (is_prefixed (b ∷ bs)) _ _ (hexadecimal_sound (b ∷ bs))
    (λ plain. value_sound _ _ (b ∷ bs) (run_fits Digit (b ∷ bs)) (inl (some_run Digit b bs digit, refl)))

text_sound : (bs : List ℕ) (o : Option Quoted) → Closed 0 bs o → IsSound (text_front o) (34 ∷ bs)
text_sound bs (Some q) (fits, closes) =
    let width : q.width + 1 ≡ suc q.width = omega arith in
    let spells : Spells (Text q.bytes) (take (q.width + 1) (34 ∷ bs)) =
    (take q.width bs, ap (λ k. take k (34 ∷ bs)) width, closes) in
    (omega (arith, fits), spells, closes_bytes q.bytes (take q.width bs) closes)
text_sound bs None closes = tt

single_sound : (b : ℕ) (bs : List ℕ) → IsSound (single_front b) (b ∷ bs)
single_sound b bs =
    choose (λ f. IsSound f (b ∷ bs)) (is_single b) _ _ (λ single. (omega arith, (refl, single), single)) (λ none. tt)

symbol_sound : (b : ℕ) (bs : List ℕ) → IsSound (symbol_front b bs) (b ∷ bs)
symbol_sound b [] = single_sound b []
symbol_sound b (x ∷ bs) =
    choose (λ f. IsSound f (b ∷ x ∷ bs)) (is_pair b x) _ _
    (λ pair. (omega arith, (refl, pair), pair)) (λ none. single_sound b (x ∷ bs))

comment_sound : (b : ℕ) (bs : List ℕ) → b ≡ 35 → IsSound (Blank (run Comment (b ∷ bs))) (b ∷ bs)
comment_sound b bs mark =
    subst (λ n. IsSound (Blank n) (b ∷ bs)) (one_run Comment b bs (ap (λ x. not (x == 10)) mark)) (
      omega (arith, run_fits Comment bs),
      inr (take (run Comment bs) bs, ap (λ x. x ∷ take (run Comment bs) bs) mark, run_all Comment bs),
    )

pub sound : (bs : List ℕ) → IsSound (front_of bs) bs
sound [] = tt
sound (b ∷ bs) =
    let P : Front → Type 0 = λ f. IsSound f (b ∷ bs) in
    choose P (is_white b) _ _ (λ white. (run_fits White (b ∷ bs), inl (some_run White b bs white)))
    (λ w. choose P (b == 35) _ _ (λ mark. comment_sound b bs (eqb-true b 35 mark))
    (λ c. choose P (is_letter b) _ _ (name_sound b bs)
    (λ l. choose P (is_digit b) _ _ (number_sound b bs)
    (λ d. choose P (b == 34) _ _
    (λ mark. subst (λ x. IsSound (text_front (quoted 0 bs)) (x ∷ bs)) (sym (eqb-true b 34 mark))
    (text_sound bs (quoted 0 bs) (closed bs 0)))
    (λ q. symbol_sound b bs)))))
