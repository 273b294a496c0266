-- The tokens of a text have the shape of tokens.
use Rattle.std.proofs.Common.{◌≡◌, ℕ, zero, suc, ◌+◌, ◌-◌, ◌*◌, ◌≤◌, ◌^◌, List, [], ◌∷◌, Bool, true, false, cond, ◌&&◌, ◌||◌, ◌==◌, nat_le}
use Rattle.std.proofs.Common.{nat_lt, Option, Some, None, Ok, Err, pos, take, drop, length, refl, ap, ◌∙◌, sym, subst, arith, add-one, true≢false}
use Rattle.std.specs.List.{AllByRecursion, list_all}
use Rattle.std.proofs.lemmas.Bool.{and_from, or_left, lt-ltb}
use Rattle.std.proofs.lemmas.Bool.Decides.{nat_tests}
use Rattle.ipg_ast.specs.declared.token.Reserved.{Reserved}
use Rattle.ipg_ast.specs.declared.token.TokenKind.TheVariants.{Symbol}
use Rattle.ipg_read_tokens.specs.declared.token.Token.{Token}
use Rattle.ipg_read_tokens.specs.declared.fault.ReadFault.TheVariants.{TooLong, Lex, Number as TooLarge, Syntax, Limit, Memory}
use Rattle.ipg_read_tokens.specs.declared.front.Front.{Front}
use Rattle.ipg_read_tokens.specs.declared.front.Front.TheVariants.{Nothing, Blank, Large, Token as Begins}
use Rattle.ipg_read_tokens.specs.declared.class.Class.{Class}
use Rattle.ipg_read_tokens.specs.declared.class.Class.TheVariants.{White, Comment, Naming, Digit, Hexadecimal}
use Rattle.ipg_read_tokens.specs.declared.string.Item.{Item}
use Rattle.ipg_read_tokens.specs.declared.string.Item.TheVariants.{End, Byte, Bad}
use Rattle.ipg_read_tokens.specs.Lexical.{Lexed, lexed, beginning, front_at, token_first, large_first, tokens_of, in_class, run, is_white, is_letter}
use Rattle.ipg_read_tokens.specs.Lexical.{is_digit, is_hexadecimal, is_plain, is_single, is_pair, is_prefixed, reserved_of, word_or, digit_value, value}
use Rattle.ipg_read_tokens.specs.Lexical.{below_limit, front_of_value, decimal_front, hexadecimal_front, number_front, name_front, escape, item, Quoted}
use Rattle.ipg_read_tokens.specs.Lexical.{after_bytes, with_item, quoted, text_front, string_front, single_front, symbol_front}
use Rattle.ipg_read_tokens.specs.Shaped.{is_free, is_name, is_byte, IsToken}
use Rattle.ipg_read_canonical_laws.specs.Laws.{kinds, ReadsShaped}
use Rattle.ipg_read_canonical_laws.proofs.Formed.{reads_formed}
use Rattle.ipg_read_canonical_laws.proofs.Kept.{keeps_tokens}

choose : {A : Type 0} (P : A → Type 0) (c : Bool) (x y : A) → (c ≡ true → P x) → (c ≡ false → P y) → P (cond c x y)
choose P true x y f g = f refl
choose P false x y f g = g refl

abbrev OfToken : Front → Type 0
OfToken Nothing = Unit {0}
OfToken (Blank n) = Unit {0}
OfToken (Large n) = Unit {0}
OfToken (Begins kind n) = IsToken kind

-- ---- names

run_all : (c : Class) (bs : List ℕ) → list_all (in_class c) (take (run c bs) bs) ≡ true
run_all c [] = refl
run_all c (b ∷ bs) =
    choose (λ n. list_all (in_class c) (take n (b ∷ bs)) ≡ true) (in_class c b) (run c bs + 1) 0
    (λ is. subst (λ n. list_all (in_class c) (take n (b ∷ bs)) ≡ true) (sym (add-one (run c bs)))
    (and_from (in_class c b) (list_all (in_class c) (take (run c bs) bs)) is (run_all c bs)))
    (λ no. refl)

-- a name begins with its letter
letter_first : (b : ℕ) (bs : List ℕ) → is_letter b ≡ true → take (run Naming (b ∷ bs)) (b ∷ bs) ≡ b ∷ take (run Naming bs) bs
letter_first b bs is =
    let naming : in_class Naming b ≡ true = or_left (is_letter b) (is_digit b) is in
    ap (λ c. take (cond c (run Naming bs + 1) 0) (b ∷ bs)) naming ∙ ap (λ n. take n (b ∷ bs)) (add-one (run Naming bs))

name_token : (b : ℕ) (bs : List ℕ) → is_letter b ≡ true → OfToken (name_front (b ∷ bs))
name_token b bs is =
    let w : List ℕ = take (run Naming (b ∷ bs)) (b ∷ bs) in
    let named : is_name w ≡ true = ap is_name (letter_first b bs is) ∙ and_from (is_letter b) (list_all (in_class Naming) (take (run Naming bs) bs))
    is (run_all Naming bs) in
    by w (reserved_of w) refl named
  where
    by : (w : List ℕ) (o : Option Reserved) → reserved_of w ≡ o → is_name w ≡ true → IsToken (word_or o w)
    by w None e named = and_from (is_name w) (is_free (reserved_of w)) named (ap is_free e)
    by w (Some r) e named = refl

-- ---- symbols

single_token : (a : ℕ) → OfToken (single_front a)
single_token a = choose OfToken (is_single a) (Begins (Symbol (a ∷ [])) 1) Nothing (λ is. is) (λ no. tt)

symbol_token : (a : ℕ) (bs : List ℕ) → OfToken (symbol_front a bs)
symbol_token a [] = single_token a
symbol_token a (b ∷ bs) = choose OfToken (is_pair a b) (Begins (Symbol (a ∷ b ∷ [])) 2) (single_front a) (λ is. is) (λ no. single_token a)

-- ---- numbers

number_token : (n width : ℕ) → OfToken (front_of_value (below_limit n) width)
number_token n width = choose (λ o. OfToken (front_of_value o width)) (nat_lt n (2 ^ 63)) (Some (pos n)) None (λ is. is) (λ no. tt)

number_front_token : (bs : List ℕ) → OfToken (number_front bs)
number_front_token bs =
    choose OfToken (is_prefixed bs) (hexadecimal_front (drop 2 bs)) (decimal_front bs)
    (λ is. number_token (value 16 0 (take (run Hexadecimal (drop 2 bs)) (drop 2 bs))) (run Hexadecimal (drop 2 bs) + 2))
    (λ no. number_token (value 10 0 (take (run Digit bs) bs)) (run Digit bs))

-- ---- strings

abbrev BytesOf : Option Quoted → Type 0
BytesOf (Some q) = list_all is_byte q.bytes ≡ true
BytesOf None = Unit {0}

abbrev OfItem : Item → Type 0
OfItem End = Unit {0}
OfItem (Byte b n) = is_byte b ≡ true
OfItem Bad = Unit {0}

hex_small : (h : ℕ) → is_hexadecimal h ≡ true → digit_value h ≤ 15
hex_small h is =
    choose (λ n. n ≤ 15) (nat_le h 57) (h - 48) (cond (nat_le h 70) (h - 55) (h - 87)) (λ a. grind (arith, nat_tests))
    (λ a. choose (λ n. n ≤ 15) (nat_le h 70) (h - 55) (h - 87) (λ b. grind (arith, nat_tests)) (λ b. grind (arith, nat_tests)))

hex_byte : (h l : ℕ) → is_hexadecimal h ≡ true → is_hexadecimal l ≡ true → is_byte (digit_value h * 16 + digit_value l) ≡ true
hex_byte h l first second =
    lt-ltb (digit_value h * 16 + digit_value l) 256 (omega (arith, hex_small h first, hex_small l second))

plain_byte : (b : ℕ) → is_plain b ≡ true → is_byte b ≡ true
plain_byte b is = grind (arith, nat_tests)

escaped_byte : (b : ℕ) → (b == 34 || b == 92) ≡ true → is_byte b ≡ true
escaped_byte b is = grind (arith, nat_tests)

first_digit : (x y z : Bool) → (x && y && z) ≡ true → y ≡ true
first_digit true true z is = refl
first_digit true false z is = absurd (true≢false (sym is))
first_digit false y z is = absurd (true≢false (sym is))

second_digit : (x y z : Bool) → (x && y && z) ≡ true → z ≡ true
second_digit true true z is = is
second_digit true false z is = absurd (true≢false (sym is))
second_digit false y z is = absurd (true≢false (sym is))

escape_bytes : (bs : List ℕ) → OfItem (escape bs)
escape_bytes [] = tt
escape_bytes (b ∷ []) = choose OfItem (b == 34 || b == 92) (Byte b 2) Bad (λ is. escaped_byte b is) (λ other. tt)
escape_bytes (b ∷ h ∷ []) = choose OfItem (b == 34 || b == 92) (Byte b 2) Bad (λ is. escaped_byte b is) (λ other. tt)
escape_bytes (b ∷ h ∷ l ∷ bs) =
    choose OfItem (b == 34 || b == 92) (Byte b 2) (cond (b == 120 && is_hexadecimal h && is_hexadecimal l) (Byte (digit_value h * 16 + digit_value l) 4) Bad)
    (λ is. escaped_byte b is)
    (λ other. choose OfItem (b == 120 && is_hexadecimal h && is_hexadecimal l) (Byte (digit_value h * 16 + digit_value l) 4) Bad
    (λ is. hex_byte h l (first_digit (b == 120) (is_hexadecimal h) (is_hexadecimal l) is) (second_digit (b == 120) (is_hexadecimal h) (is_hexadecimal l) is))
    (λ bad. tt))

item_bytes : (b : ℕ) (bs : List ℕ) → OfItem (item b bs)
item_bytes b bs =
    choose OfItem (b == 34) End (cond (b == 92) (escape bs) (cond (is_plain b) (Byte b 1) Bad)) (λ is. tt)
    (λ solid_too. choose OfItem (b == 92) (escape bs) (cond (is_plain b) (Byte b 1) Bad) (λ is. escape_bytes bs)
    (λ other. choose OfItem (is_plain b) (Byte b 1) Bad (λ is. plain_byte b is) (λ bad. tt)))

byte_before : (b n : ℕ) (o : Option Quoted) → is_byte b ≡ true → BytesOf o → BytesOf (after_bytes (b ∷ []) n o)
byte_before b n (Some q) is rest = and_from (is_byte b) (list_all is_byte q.bytes) is rest
byte_before b n None is rest = tt

with_item_bytes : (i : Item) (rest : ℕ → Option Quoted) → OfItem i → ((more : ℕ) → BytesOf (rest more)) → BytesOf (with_item i rest)
with_item_bytes End rest is all = refl
with_item_bytes (Byte b n) rest is all = byte_before b n (rest (n - 1)) is (all (n - 1))
with_item_bytes Bad rest is all = tt

quoted_bytes : (bs : List ℕ) (skip : ℕ) → BytesOf (quoted skip bs)
quoted_bytes [] skip = tt
quoted_bytes (b ∷ bs) (suc skip) = quoted_bytes bs skip
quoted_bytes (b ∷ bs) zero = with_item_bytes (item b bs) (λ more. quoted more bs) (item_bytes b bs) (λ more. quoted_bytes bs more)

text_token : (o : Option Quoted) → BytesOf o → OfToken (text_front o)
text_token (Some q) is = is
text_token None is = tt

-- ---- what begins at a place

front_token : (b : ℕ) (bs : List ℕ) → OfToken (front_at b bs)
front_token b bs =
    choose OfToken (is_white b) (Blank (run White (b ∷ bs)))
    (cond (b == 35) (Blank (run Comment (b ∷ bs)))
    (cond (is_letter b) (name_front (b ∷ bs)) (cond (is_digit b) (number_front (b ∷ bs)) (cond (b == 34) (string_front bs) (symbol_front b bs)))))
    (λ is. tt)
    (λ solid. choose OfToken (b == 35) (Blank (run Comment (b ∷ bs)))
    (cond (is_letter b) (name_front (b ∷ bs)) (cond (is_digit b) (number_front (b ∷ bs)) (cond (b == 34) (string_front bs) (symbol_front b bs))))
    (λ is. tt)
    (λ solid_too. choose OfToken (is_letter b) (name_front (b ∷ bs))
    (cond (is_digit b) (number_front (b ∷ bs)) (cond (b == 34) (string_front bs) (symbol_front b bs)))
    (λ is. name_token b bs is)
    (λ other. choose OfToken (is_digit b) (number_front (b ∷ bs)) (cond (b == 34) (string_front bs) (symbol_front b bs))
    (λ is. number_front_token (b ∷ bs))
    (λ rest. choose OfToken (b == 34) (string_front bs) (symbol_front b bs)
    (λ is. text_token (quoted 0 bs) (quoted_bytes bs 0)) (λ last. symbol_token b bs)))))

-- ---- a text

abbrev TokensIfOk : Lexed → Type 0
TokensIfOk (Ok ts) = AllByRecursion IsToken (kinds ts)
TokensIfOk (Err f) = Unit {0}

token_before : (t : Token) (l : Lexed) → IsToken t.kind → TokensIfOk l → TokensIfOk (token_first t l)
token_before t (Ok ts) is rest = (is, rest)
token_before t (Err f) is rest = tt

after_large : (at : ℕ) (l : Lexed) → TokensIfOk (large_first at l)
after_large at (Ok ts) = tt
after_large at (Err TooLong) = tt
after_large at (Err (Lex p)) = tt
after_large at (Err (TooLarge p)) = tt
after_large at (Err (Syntax p)) = tt
after_large at (Err (Limit which p)) = tt
after_large at (Err Memory) = tt

beginning_tokens : (f : Front) (at : ℕ) (rest : ℕ → Lexed) → OfToken f → ((more : ℕ) → TokensIfOk (rest more)) → TokensIfOk (beginning f at rest)
beginning_tokens Nothing at rest is all = tt
beginning_tokens (Blank n) at rest is all = all (n - 1)
beginning_tokens (Large n) at rest is all = after_large at (rest (n - 1))
beginning_tokens (Begins kind n) at rest is all = token_before (record { kind = kind; span = record { from = at; to = at + n } }) (rest (n - 1)) is
    (all (n - 1))

lexed_tokens : (bs : List ℕ) (at skip : ℕ) → TokensIfOk (lexed at skip bs)
lexed_tokens [] at skip = tt
lexed_tokens (b ∷ bs) at (suc skip) = lexed_tokens bs (at + 1) skip
lexed_tokens (b ∷ bs) at zero = beginning_tokens (front_at b bs) at (λ more. lexed (at + 1) more bs) (front_token b bs) (λ more. lexed_tokens bs (at + 1) more)

text_tokens : (text : List ℕ) → TokensIfOk (tokens_of text)
text_tokens text = choose TokensIfOk (nat_lt (2 ^ 20) (length text)) (Err TooLong) (lexed 0 0 text) (λ is. tt) (λ short. lexed_tokens text 0 0)

pub reads_shaped : ReadsShaped
reads_shaped text g r short = record {
  formed = reads_formed text g r;
  tokens = subst (AllByRecursion IsToken) (keeps_tokens text g r.reads.tokens (record { tree = r.tree; reads = r.reads; is = r.is }) r.reads.falls)
      (subst TokensIfOk r.reads.falls (text_tokens text));
  short = short;
}
