-- What is spelled at the front is taken, at least.
use Rattle.std.proofs.Common.{◌≡◌, ℕ, suc, ◌+◌, ◌≤◌, true, ◌&&◌, ◌||◌, List, [], ◌∷◌, ◌++◌, Option, Some, None, take, drop, length, refl, ap, ◌∙◌}
use Rattle.std.proofs.Common.{sym, subst, arith, inl, inr, true≢false}
use Rattle.std.specs.Prelude.{ℤ, codes, pos, negsuc}
use Rattle.std.specs.List.{list_all}
use Rattle.std.proofs.lemmas.List.{take-append-drop, length-take-le}
use Rattle.ipg_ast.specs.Canonical.{spelling}
use Rattle.ipg_ast.specs.declared.token.TokenKind.TheVariants.{Name, Word, Number, Text, Symbol}
use Rattle.ipg_read_tokens.specs.declared.front.Front.{Front}
use Rattle.ipg_read_tokens.specs.declared.front.Front.TheVariants.{Nothing, Blank, Large, Token as Begins}
use Rattle.ipg_read_tokens.specs.declared.class.Class.TheVariants.{White, Comment, Naming, Digit, Hexadecimal}
use Rattle.ipg_read_tokens.specs.Lexical.{in_class, run, is_white, is_letter, is_digit, is_hexadecimal, is_prefixed, is_pair, is_single, front_of_value}
use Rattle.ipg_read_tokens.specs.Lexical.{text_front, symbol_front, front_of}
use Rattle.ipg_read_tokens.specs.Shaped.{is_name, is_symbol}
use Rattle.ipg_read_token_laws.specs.Forms.{SomeOf, Numeral, Closes, IsSpelled, IsBlank, NoneBeyond}
use Rattle.ipg_read_token_laws.proofs.Bytes.{both, choose, white_front, letter_front, digit_front, single_front_at, pair_single, no_mark, not_mark}
use Rattle.ipg_read_token_laws.proofs.Bytes.{word_named}
use Rattle.ipg_read_token_laws.proofs.Runs.{run_reaches}
use Rattle.ipg_read_token_laws.proofs.Texts.{closes_read}

-- how many bytes a token takes
abbrev pub token_width : Front → ℕ
token_width Nothing = 0
token_width (Blank n) = 0
token_width (Large n) = n
token_width (Begins kind n) = n

abbrev pub blank_width : Front → ℕ
blank_width Nothing = 0
blank_width (Blank n) = n
blank_width (Large n) = 0
blank_width (Begins kind n) = 0

abbrev Takes : ℕ → Front → Type 0
Takes n f = n ≤ token_width f

abbrev Reaches : List ℕ → List ℕ → Type 0
Reaches xs rest = Takes (length xs) (front_of (xs ++ rest))

name_reaches : (xs rest : List ℕ) → is_name xs ≡ true → Reaches xs rest
name_reaches [] rest named = absurd (true≢false (sym named))
name_reaches (b ∷ xs) rest named =
    let (letter, more) = both (is_letter b) (list_all (in_class Naming) xs) named in
    let all : list_all (in_class Naming) (b ∷ xs) ≡ true =
    ap (λ v. (v || is_digit b) && list_all (in_class Naming) xs) letter ∙ more in
    subst (Takes (suc (length xs))) (sym (letter_front b (xs ++ rest) letter)) (run_reaches Naming (b ∷ xs) rest all)

value_takes : (k : ℕ) (o : Option ℤ) (n : ℕ) → k ≤ n → Takes k (front_of_value o n)
value_takes k (Some z) n few = few
value_takes k None n few = few

-- a lone digit may stand before an `x`
lone_digit : (d : ℕ) (xs rest : List ℕ) → list_all is_digit xs ≡ true → is_prefixed (d ∷ xs ++ rest) ≡ true → length xs ≤ 0
lone_digit d [] rest all marked = omega arith
lone_digit d (x ∷ xs) rest all marked =
    let digit : is_digit x ≡ true = (both (is_digit x) (list_all is_digit xs) all).0 in
    absurd (true≢false (sym marked ∙ no_mark d x (xs ++ rest) (not_mark x digit)))

decimal_reaches : (xs rest : List ℕ) → SomeOf is_digit xs → Reaches xs rest
decimal_reaches [] rest (some, all) = absurd (some refl)
decimal_reaches (d ∷ xs) rest (some, all) =
    let (digit, more) = both (is_digit d) (list_all is_digit xs) all in
    subst (Takes (suc (length xs))) (sym (digit_front d (xs ++ rest) digit))
    (choose (Takes (suc (length xs))) (is_prefixed (d ∷ xs ++ rest)) _ _
    (λ marked.
    let fits : suc (length xs) ≤ run Hexadecimal (drop 1 (xs ++ rest)) + 2 = omega (arith, lone_digit d xs rest more marked) in
    value_takes _ _ _ fits)
    (λ plain. value_takes _ _ _ (run_reaches Digit (d ∷ xs) rest all)))

hexadecimal_reaches : (xs rest : List ℕ) → SomeOf is_hexadecimal xs → Reaches (codes "0x" ++ xs) rest
hexadecimal_reaches [] rest (some, all) = absurd (some refl)
hexadecimal_reaches (c ∷ xs) rest (some, all) =
    let (digit, more) = both (is_hexadecimal c) (list_all is_hexadecimal xs) all in
    let further : length xs ≤ run Hexadecimal (xs ++ rest) = run_reaches Hexadecimal xs rest more in
    let fits : suc (suc (suc (length xs))) ≤ run Hexadecimal (xs ++ rest) + 1 + 2 = omega (arith, further) in
    rw digit (value_takes _ _ _ fits)

moved : (xs ys rest : List ℕ) → xs ≡ ys → Reaches ys rest → Reaches xs rest
moved xs ys rest is = subst (λ zs. Reaches zs rest) (sym is)

numeral_reaches : (n : ℕ) (xs rest : List ℕ) → Numeral n xs → Reaches xs rest
numeral_reaches n xs rest (inl (digits, sum)) = decimal_reaches xs rest digits
numeral_reaches n xs rest (inr (ds, is, digits, sum)) = moved xs _ rest is (hexadecimal_reaches ds rest digits)

text_reaches : (bytes text rest : List ℕ) → Closes bytes text → Reaches (34 ∷ text) rest
text_reaches bytes text rest closes =
    subst (λ o. Takes (suc (length text)) (text_front o)) (sym (closes_read bytes text rest closes)) (omega arith)

single_reaches : (a : ℕ) (rest : List ℕ) → is_single a ≡ true → Takes 1 (symbol_front a rest)
single_reaches a [] single = rw single (omega arith)
single_reaches a (b ∷ rest) single =
    choose (Takes 1) (is_pair a b) _ _ (λ pair. omega arith) (λ none. rw single (omega arith))

symbol_reaches : (xs rest : List ℕ) → is_symbol xs ≡ true → Reaches xs rest
symbol_reaches [] rest is = absurd (true≢false (sym is))
symbol_reaches (a ∷ []) rest single =
    subst (Takes 1) (sym (single_front_at a rest single)) (single_reaches a rest single)
symbol_reaches (a ∷ b ∷ []) rest pair =
    subst (Takes 2) (sym (single_front_at a (b ∷ rest) (pair_single a b pair))) (rw pair (omega arith))
symbol_reaches (a ∷ b ∷ c ∷ xs) rest is = absurd (true≢false (sym is))

token_reaches : (xs rest : List ℕ) → IsSpelled xs → Reaches xs rest
token_reaches xs rest (Name name, (is, token)) = moved xs _ rest is (name_reaches name rest (both _ _ token).0)
token_reaches xs rest (Word w, is) = moved xs _ rest is (name_reaches (spelling w) rest (word_named w))
token_reaches xs rest (Number (pos n), numeral) = numeral_reaches n xs rest numeral
token_reaches xs rest (Number (negsuc n), none) = absurd none
token_reaches xs rest (Text bytes, (text, is, closes)) = moved xs _ rest is (text_reaches bytes text rest closes)
token_reaches xs rest (Symbol name, (is, token)) = moved xs _ rest is (symbol_reaches name rest token)

blank_reaches : (xs rest : List ℕ) → IsBlank xs → length xs ≤ blank_width (front_of (xs ++ rest))
blank_reaches [] rest (inl (some, all)) = absurd (some refl)
blank_reaches (b ∷ xs) rest (inl (some, all)) =
    let white : is_white b ≡ true = (both (is_white b) (list_all is_white xs) all).0 in
    subst (λ f. suc (length xs) ≤ blank_width f) (sym (white_front b (xs ++ rest) white)) (run_reaches White (b ∷ xs) rest all)
blank_reaches xs rest (inr (comment, is, all)) =
    subst (λ ys. length ys ≤ blank_width (front_of (ys ++ rest))) (sym is) (run_reaches Comment (35 ∷ comment) rest all)

none_past : (Is : List ℕ → Type 0) (width : Front → ℕ)
    → ((xs rest : List ℕ) → Is xs → length xs ≤ width (front_of (xs ++ rest))) → (bs : List ℕ) → NoneBeyond Is (width (front_of bs)) bs
none_past Is width reaches bs m more fits is =
    let far : length (take m bs) ≤ width (front_of bs) =
    subst (λ xs. length (take m bs) ≤ width (front_of xs)) (take-append-drop m bs)
    (reaches (take m bs) (drop m bs) is) in
    omega (arith, far, length-take-le m bs fits)

pub no_token_past : (bs : List ℕ) → NoneBeyond IsSpelled (token_width (front_of bs)) bs
no_token_past = none_past IsSpelled token_width token_reaches

pub no_blank_past : (bs : List ℕ) → NoneBeyond IsBlank (blank_width (front_of bs)) bs
no_blank_past = none_past IsBlank blank_width blank_reaches
