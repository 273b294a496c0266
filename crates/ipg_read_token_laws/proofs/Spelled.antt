-- What is written of a token begins that token.
use Rattle.std.proofs.Common.{◌≡◌, ℕ, ◌+◌, ◌-◌, ◌*◌, ◌/◌, ◌%◌, ◌^◌, ◌<◌, ◌⊎◌, true, false, ◌&&◌, ◌||◌, ◌==◌, List, [], ◌∷◌, ◌++◌, Some, None}
use Rattle.std.proofs.Common.{take, drop, length, cond, refl, ap, append_assoc, ◌∙◌, sym, arith, inl, inr, true≢false, decimal}
use Rattle.std.specs.Prelude.{ℤ, pos, negsuc, if◌then◌else◌, nat_lt}
use Rattle.std.specs.List.{list_all}
use Rattle.std.specs.Fmt.{signed_decimal}
use Rattle.std.specs.Int.{IsInRange}
use Rattle.std.proofs.lemmas.Bool.{eqb-true, eqb-false, ltb-true}
use Rattle.std.proofs.Math.Numerals.{add-one}
use Rattle.std.proofs.lemmas.Bool.Decides.{nat_tests}
use Rattle.std.proofs.lemmas.Fmt.{decimal_nonempty, digits_decimal, digits_value-decimal}
use Rattle.std.proofs.lemmas.Str.Parse.{IsDigitsTest, FoldsDigits, IsNumeralModel, numerals_by_fold}
use Rattle.ipg_ast.specs.declared.token.TokenKind.{TokenKind}
use Rattle.ipg_ast.specs.declared.token.TokenKind.TheVariants.{Name, Word, Number, Text, Symbol}
use Rattle.ipg_ast.specs.Canonical.{spelling, hex_digit, is_plain, byte_text, bytes_text, kind_text, gap, is_semicolon}
use Rattle.ipg_read_tokens.specs.declared.class.Class.{Class}
use Rattle.ipg_read_tokens.specs.declared.class.Class.TheVariants.{Naming, Digit}
use Rattle.ipg_read_tokens.specs.declared.front.Front.TheVariants.{Nothing, Token as Begins}
use Rattle.ipg_read_tokens.specs.Lexical.{in_class, run, is_digit, is_hexadecimal, digit_value, value, below_limit, front_of_value, is_prefixed}
use Rattle.ipg_read_tokens.specs.Lexical.{decimal_front, hexadecimal_front, reserved_of, word, text_front, single_front, front_of}
use Rattle.ipg_read_tokens.specs.Shaped.{is_free, is_name, is_symbol, is_byte, is_literal, IsToken}
use Rattle.ipg_read_token_laws.specs.Forms.{Stands, plain, escaped, coded, Closes}
use Rattle.ipg_read_token_laws.proofs.Bytes.{both, choose, letter_front, digit_front, single_front_at, pair_single, no_pair, gap_naming, no_mark}
use Rattle.ipg_read_token_laws.proofs.Bytes.{not_mark, free_name, word_named, word_spelled}
use Rattle.ipg_read_token_laws.proofs.Texts.{closes_read}

abbrev pub IsGap : ℕ → Type 0
IsGap g = (g ≡ 32) ⊎ (g ≡ 10)

-- ---- runs

run_of : (class : Class) (bs : List ℕ) (g : ℕ) (rest : List ℕ) → list_all (in_class class) bs ≡ true
    → in_class class g ≡ false → run class (bs ++ g ∷ rest) ≡ length bs
run_of class [] g rest all ends = ap (λ c. cond c (run class rest + 1) 0) ends
run_of class (b ∷ bs) g rest all ends =
    let (here, more) = both (in_class class b) (list_all (in_class class) bs) all in
    ap (λ c. cond c (run class (bs ++ g ∷ rest) + 1) 0) here ∙ ap (λ n. n + 1) (run_of class bs g rest more ends)
    ∙ add-one (length bs)

take_front : (bs rest : List ℕ) → take (length bs) (bs ++ rest) ≡ bs
take_front [] rest = refl
take_front (b ∷ bs) rest = ap (λ xs. b ∷ xs) (take_front bs rest)

-- ---- names and reserved words

name_begins : (bs : List ℕ) (g : ℕ) (rest : List ℕ) → is_name bs ≡ true → IsGap g → front_of (bs ++ g ∷ rest) ≡ Begins (word bs) (length bs)
name_begins [] g rest is ends = absurd (true≢false (sym is))
name_begins (b ∷ bs) g rest is ends =
    let (letter, more) = both _ _ is in
    let all : list_all (in_class Naming) (b ∷ bs) ≡ true = ap (λ c. (c || is_digit b) && list_all (in_class Naming) bs) letter ∙ more in
    let count : run Naming (b ∷ bs ++ g ∷ rest) ≡ length (b ∷ bs) = run_of Naming (b ∷ bs) g rest all (gap_naming g ends) in
    letter_front b (bs ++ g ∷ rest) letter
    ∙ ap (λ n. Begins (word (take n (b ∷ bs ++ g ∷ rest))) n) count
    ∙ ap (λ xs. Begins (word xs) (length (b ∷ bs))) (take_front (b ∷ bs) (g ∷ rest))

-- ---- numbers

abbrev AllDigits : List ℕ → Type 0
AllDigits ds = list_all (in_class Digit) ds ≡ true

digit_parts : (c : ℕ) (cs : List ℕ) → AllDigits (c ∷ cs) → IsInRange 48 57 c × AllDigits cs
digit_parts c cs all = let (here, more) = both (is_digit c) (list_all (in_class Digit) cs) all in (grind (arith, nat_tests), more)

digit_more : (c : ℕ) (cs : List ℕ) → IsInRange 48 57 c → AllDigits cs → AllDigits (c ∷ cs)
digit_more c cs range all = let here : is_digit c ≡ true = grind (arith, nat_tests) in ap (λ v. v && list_all (in_class Digit) cs) here ∙ all

digits_test : IsDigitsTest AllDigits
digits_test = record { empty = refl; parts = λ c cs all. digit_parts c cs all; more = λ c cs range all. digit_more c cs range all }

digits_fold : FoldsDigits (value 10)
digits_fold = record {
  empty = λ n. refl;
  more = λ n c cs range. let e : digit_value c ≡ c - 48 = grind (arith, nat_tests) in ap (λ v. value 10 (n * 10 + v) cs) e;
}

digits_model : IsNumeralModel AllDigits (value 10 0)
digits_model = numerals_by_fold AllDigits digits_test (value 10) digits_fold

not_prefixed : (ds rest : List ℕ) → AllDigits ds → is_prefixed (ds ++ 32 ∷ rest) ≡ false
not_prefixed [] [] all = refl
not_prefixed [] (b ∷ []) all = refl
not_prefixed [] (b ∷ c ∷ bs) all = refl
not_prefixed (d ∷ []) rest all = no_mark d 32 rest refl
not_prefixed (d ∷ e ∷ ds) rest all = no_mark d e (ds ++ 32 ∷ rest) (not_mark e (both (is_digit e) _ (digit_parts d (e ∷ ds) all).1).0)

digits_begin : (n : ℕ) (ds rest : List ℕ) → 0 < length ds → AllDigits ds → value 10 0 ds ≡ n → nat_lt n (2 ^ 63) ≡ true
    → front_of (ds ++ 32 ∷ rest) ≡ Begins (Number (pos n)) (length ds)
digits_begin n [] rest some all is small = absurd (omega arith)
digits_begin n (d ∷ ds) rest some all is small =
    let count : run Digit (d ∷ ds ++ 32 ∷ rest) ≡ length (d ∷ ds) = run_of Digit (d ∷ ds) 32 rest all refl in
    let sum : value 10 0 (take (length (d ∷ ds)) (d ∷ ds ++ 32 ∷ rest)) ≡ n = ap (value 10 0) (take_front (d ∷ ds) (32 ∷ rest)) ∙ is in
    digit_front d (ds ++ 32 ∷ rest) (both (is_digit d) (list_all (in_class Digit) ds) all).0
    ∙ ap (λ c. if c then hexadecimal_front (drop 2 (d ∷ ds ++ 32 ∷ rest)) else decimal_front (d ∷ ds ++ 32 ∷ rest)) (not_prefixed (d ∷ ds) rest all)
    ∙ ap (λ k. front_of_value (below_limit (value 10 0 (take k (d ∷ ds ++ 32 ∷ rest)))) k) count
    ∙ ap (λ v. front_of_value (below_limit v) (length (d ∷ ds))) sum
    ∙ ap (λ c. front_of_value (cond c (Some (pos n)) None) (length (d ∷ ds))) small

number_begins : (z : ℤ) (rest : List ℕ) → is_literal z ≡ true → front_of (signed_decimal z ++ 32 ∷ rest) ≡ Begins (Number z) (length (signed_decimal z))
number_begins (negsuc n) rest small = absurd (true≢false (sym small))
number_begins (pos n) rest small =
    let word : n < 2 ^ 64 = omega (arith, ltb-true n (2 ^ 63) small) in
    digits_begin n (decimal n) rest (decimal_nonempty n word) (digits_decimal digits_model n word) (digits_value-decimal digits_model n word) small

-- ---- strings

hexadecimal_digit : (d : ℕ) → d < 16 → (is_hexadecimal (hex_digit d) ≡ true) × (digit_value (hex_digit d) ≡ d)
hexadecimal_digit d less = (grind (arith, nat_tests), grind (arith, nat_tests))

byte_stands : (b : ℕ) → is_byte b ≡ true → Stands (byte_text b) b
byte_stands b small =
    choose (λ xs. Stands xs b) (b == 34) _ _
    (λ is. escaped (ap (λ x. 92 ∷ x ∷ []) (sym (eqb-true b 34 is))) (inl (eqb-true b 34 is)))
    (λ quote. choose (λ xs. Stands xs b) (b == 92) _ _
    (λ is. escaped (ap (λ x. 92 ∷ x ∷ []) (sym (eqb-true b 92 is))) (inr (eqb-true b 92 is)))
    (λ mark. choose (λ xs. Stands xs b) (is_plain b) _ _
    (λ clear. plain refl clear (eqb-false b 34 quote) (eqb-false b 92 mark))
    (λ other.
    let less : b < 256 = ltb-true b 256 small in
    let high = hexadecimal_digit (b / 16) (omega arith) in
    let low = hexadecimal_digit (b % 16) (omega arith) in
    coded (hex_digit (b / 16)) (hex_digit (b % 16)) refl high.0 low.0 (omega (arith, high.1, low.1)))))

bytes_close : (bs : List ℕ) → list_all is_byte bs ≡ true → Closes bs (bytes_text bs ++ 34 ∷ [])
bytes_close [] small = refl
bytes_close (b ∷ bs) small =
    let (here, more) = both (is_byte b) (list_all is_byte bs) small in
    let parts = append_assoc (byte_text b) (bytes_text bs) (34 ∷ []) in
    (byte_text b, bytes_text bs ++ 34 ∷ [], parts, byte_stands b here, bytes_close bs more)

text_begins : (bs : List ℕ) (rest : List ℕ) → list_all is_byte bs ≡ true
    → front_of (kind_text (Text bs) ++ rest) ≡ Begins (Text bs) (length (kind_text (Text bs)))
text_begins bs rest small =
    ap text_front (closes_read bs (bytes_text bs ++ 34 ∷ []) rest (bytes_close bs small))
    ∙ ap (Begins (Text bs)) (add-one (length (bytes_text bs ++ 34 ∷ [])))

-- ---- symbols

symbol_begins : (bs : List ℕ) (g : ℕ) (rest : List ℕ) → is_symbol bs ≡ true → IsGap g → front_of (bs ++ g ∷ rest) ≡ Begins (Symbol bs) (length bs)
symbol_begins [] g rest is ends = absurd (true≢false (sym is))
symbol_begins (a ∷ []) g rest is ends =
    single_front_at a (g ∷ rest) is
    ∙ ap (λ c. if c then Begins (Symbol (a ∷ g ∷ [])) 2 else single_front a) (no_pair a g ends)
    ∙ ap (λ c. if c then Begins (Symbol (a ∷ [])) 1 else Nothing) is
symbol_begins (a ∷ b ∷ []) g rest is ends =
    single_front_at a (b ∷ g ∷ rest) (pair_single a b is)
    ∙ ap (λ c. if c then Begins (Symbol (a ∷ b ∷ [])) 2 else single_front a) is
symbol_begins (a ∷ b ∷ c ∷ bs) g rest is ends = absurd (true≢false (sym is))

-- ---- tokens

pub gap_is : (t : TokenKind) → IsGap (gap t)
gap_is (Name bs) = inl refl
gap_is (Word w) = inl refl
gap_is (Number z) = inl refl
gap_is (Text bs) = inl refl
gap_is (Symbol bs) = choose IsGap (is_semicolon bs) 10 32 (λ e. inr refl) (λ e. inl refl)

pub token_begins : (t : TokenKind) (rest : List ℕ) → IsToken t → front_of (kind_text t ++ gap t ∷ rest) ≡ Begins t (length (kind_text t))
token_begins (Name bs) rest is =
    let (named, free) = both (is_name bs) (is_free (reserved_of bs)) is in
    name_begins bs 32 rest named (inl refl) ∙ ap (λ kind. Begins kind (length bs)) (free_name bs free)
token_begins (Word w) rest is =
    name_begins (spelling w) 32 rest (word_named w) (inl refl) ∙ ap (λ kind. Begins kind (length (spelling w))) (word_spelled w)
token_begins (Number z) rest is = number_begins z rest is
token_begins (Text bs) rest is = text_begins bs (32 ∷ rest) is
token_begins (Symbol bs) rest is = symbol_begins bs (gap (Symbol bs)) rest is (gap_is (Symbol bs))
