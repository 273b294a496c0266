-- A text spells at most one token.
use Rattle.std.proofs.Common.{◌≡◌, ℕ, true, false, ◌==◌, List, [], ◌∷◌, ◌++◌, Option, Some, None, drop, refl, ap, ◌∙◌, sym, subst, arith, inl}
use Rattle.std.proofs.Common.{inr, true≢false}
use Rattle.std.specs.Prelude.{if◌then◌else◌, codes, pos, negsuc}
use Rattle.std.specs.List.{list_all}
use Rattle.std.proofs.lemmas.Bool.Decides.{nat_tests}
use Rattle.ipg_ast.specs.Canonical.{spelling}
use Rattle.ipg_ast.specs.declared.token.TokenKind.{TokenKind}
use Rattle.ipg_ast.specs.declared.token.TokenKind.TheVariants.{Name, Word, Number, Text, Symbol}
use Rattle.ipg_read_tokens.specs.declared.class.Class.TheVariants.{Naming}
use Rattle.ipg_read_tokens.specs.Lexical.{Quoted, quoted, in_class, is_letter, is_digit, is_hexadecimal, is_prefixed, is_single, reserved_of}
use Rattle.ipg_read_tokens.specs.Lexical.{word, value}
use Rattle.ipg_read_tokens.specs.Shaped.{is_free, is_name, is_symbol}
use Rattle.ipg_read_token_laws.specs.Forms.{SomeOf, Spells, SpellsOne}
use Rattle.ipg_read_token_laws.proofs.Bytes.{both, no_mark, not_mark, free_name, pair_single, word_named, word_spelled}
use Rattle.ipg_read_token_laws.proofs.Texts.{closes_read}

abbrev number_value : List ℕ → ℕ
number_value bs = if is_prefixed bs then value 16 0 (drop 2 bs) else value 10 0 bs

abbrev text_kind : Option Quoted → TokenKind
text_kind (Some q) = Text q.bytes
text_kind None = Text []

-- the only token that the bytes may spell
abbrev kind_of : List ℕ → TokenKind
kind_of [] = Symbol []
kind_of (b ∷ bs) =
    if is_letter b then word (b ∷ bs) else
    (if is_digit b then Number (pos (number_value (b ∷ bs))) else
    (if b == 34 then text_kind (quoted 0 (bs ++ [])) else Symbol (b ∷ bs)))

word_kind : (bs : List ℕ) → is_name bs ≡ true → kind_of bs ≡ word bs
word_kind [] named = absurd (true≢false (sym named))
word_kind (b ∷ bs) named = rw (both (is_letter b) (list_all (in_class Naming) bs) named).0 refl

digit_kind : (b : ℕ) (bs : List ℕ) → is_digit b ≡ true → kind_of (b ∷ bs) ≡ Number (pos (number_value (b ∷ bs)))
digit_kind b bs digit = let letter : is_letter b ≡ false = grind (arith, nat_tests) in rw (letter, digit) refl

plain_digits : (d : ℕ) (ds : List ℕ) → list_all is_digit ds ≡ true → is_prefixed (d ∷ ds) ≡ false
plain_digits d [] all = refl
plain_digits d (e ∷ ds) all = no_mark d e ds (not_mark e (both (is_digit e) (list_all is_digit ds) all).0)

decimal_kind : (bs : List ℕ) → SomeOf is_digit bs → kind_of bs ≡ Number (pos (value 10 0 bs))
decimal_kind [] (some, all) = absurd (some refl)
decimal_kind (d ∷ ds) (some, all) =
    let (digit, more) = both (is_digit d) (list_all is_digit ds) all in
    digit_kind d ds digit ∙ rw (plain_digits d ds more) refl

hexadecimal_kind : (ds : List ℕ) → SomeOf is_hexadecimal ds → kind_of (codes "0x" ++ ds) ≡ Number (pos (value 16 0 ds))
hexadecimal_kind [] (some, all) = absurd (some refl)
hexadecimal_kind (d ∷ ds) (some, all) =
    rw (both (is_hexadecimal d) (list_all is_hexadecimal ds) all).0 refl

single_kind : (a : ℕ) (bs : List ℕ) → is_single a ≡ true → kind_of (a ∷ bs) ≡ Symbol (a ∷ bs)
single_kind a bs single =
    let letter : is_letter a ≡ false = grind (arith, nat_tests) in
    let digit : is_digit a ≡ false = grind (arith, nat_tests) in
    let quote : (a == 34) ≡ false = grind (arith, nat_tests) in
    rw (letter, digit, quote) refl

symbol_kind : (bs : List ℕ) → is_symbol bs ≡ true → kind_of bs ≡ Symbol bs
symbol_kind [] is = absurd (true≢false (sym is))
symbol_kind (a ∷ []) single = single_kind a [] single
symbol_kind (a ∷ b ∷ []) pair = single_kind a (b ∷ []) (pair_single a b pair)
symbol_kind (a ∷ b ∷ c ∷ bs) is = absurd (true≢false (sym is))

one_kind : (kind : TokenKind) (bs : List ℕ) → Spells kind bs → kind_of bs ≡ kind
one_kind (Name name) bs (is, token) =
    let (named, free) = both (is_name name) (is_free (reserved_of name)) token in
    ap kind_of is ∙ word_kind name named ∙ free_name name free
one_kind (Word w) bs is = ap kind_of is ∙ word_kind (spelling w) (word_named w) ∙ word_spelled w
one_kind (Number (pos n)) bs (inl (digits, sum)) = decimal_kind bs digits ∙ ap (λ v. Number (pos v)) (sym sum)
one_kind (Number (pos n)) bs (inr (ds, is, digits, sum)) =
    ap kind_of is ∙ hexadecimal_kind ds digits ∙ ap (λ v. Number (pos v)) (sym sum)
one_kind (Number (negsuc n)) bs none = absurd none
one_kind (Text bytes) bs (text, is, closes) = ap kind_of is ∙ ap text_kind (closes_read bytes text [] closes)
one_kind (Symbol name) bs (is, token) = ap kind_of is ∙ symbol_kind name token

pub one : SpellsOne
one bs kind other is also = sym (one_kind kind bs is) ∙ one_kind other bs also

pub never_empty : (kind : TokenKind) → Spells kind [] → ⊥
never_empty kind is = true≢false (sym (subst (λ k. Spells k []) (sym (one_kind kind [] is)) is).1)
