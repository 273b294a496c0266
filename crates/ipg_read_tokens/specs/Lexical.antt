-- The tokens of a text: what begins at a place, by longest match, and what follows it.
use Rattle.std.specs.Prelude.{ℕ, zero, suc, ◌+◌, ◌-◌, ◌*◌, ◌^◌, Bool, false, not, ◌&&◌, ◌||◌, List, [], ◌∷◌, ◌++◌, take, drop}
use Rattle.std.specs.Prelude.{length, Option, Some, None, Result, Ok, Err, ℤ, pos, nat_lt, nat_le, ◌==◌, bytes_eq, if◌then◌else◌}
use Rattle.ipg_ast.specs.Canonical.{spelling}
use Rattle.ipg_ast.specs.declared.token.Reserved.{Reserved}
use Rattle.ipg_ast.specs.declared.token.Reserved.TheVariants.{For, To, Do, Switch, Case, Else, Where, Start, End as EndWord, Eoi, Tok, Many}
use Rattle.ipg_ast.specs.declared.token.TokenKind.{TokenKind}
use Rattle.ipg_ast.specs.declared.token.TokenKind.TheVariants.{Name, Word, Number, Text, Symbol}
use Rattle.ipg_read_tokens.specs.declared.token.Token.{Token}
use Rattle.ipg_read_tokens.specs.declared.fault.ReadFault.{ReadFault}
use Rattle.ipg_read_tokens.specs.declared.fault.ReadFault.TheVariants.{TooLong, Lex, Number as TooLarge}
use Rattle.ipg_read_tokens.specs.declared.front.Front.{Front}
use Rattle.ipg_read_tokens.specs.declared.front.Front.TheVariants.{Nothing, Blank, Large, Token as Begins}
use Rattle.ipg_read_tokens.specs.declared.string.Item.{Item}
use Rattle.ipg_read_tokens.specs.declared.string.Item.TheVariants.{End, Byte, Bad}
use Rattle.ipg_read_tokens.specs.declared.class.Class.{Class}
use Rattle.ipg_read_tokens.specs.declared.class.Class.TheVariants.{White, Comment, Naming, Digit, Hexadecimal}

-- ---- classes of bytes

abbrev pub between : ℕ → ℕ → ℕ → Bool
between low high b = nat_le low b && nat_le b high

abbrev pub is_white : ℕ → Bool
is_white b = b == 32 || b == 9 || b == 10 || b == 13

abbrev pub is_letter : ℕ → Bool
is_letter b = between 65 90 b || between 97 122 b || b == 95

abbrev pub is_digit : ℕ → Bool
is_digit b = between 48 57 b

abbrev pub is_hexadecimal : ℕ → Bool
is_hexadecimal b = between 48 57 b || between 65 70 b || between 97 102 b

-- a comment goes on up to a line feed
abbrev pub in_class : Class → ℕ → Bool
in_class White b = is_white b
in_class Comment b = not (b == 10)
in_class Naming b = is_letter b || is_digit b
in_class Digit b = is_digit b
in_class Hexadecimal b = is_hexadecimal b

-- how many bytes from the front on are of the class
abbrev pub run : Class → List ℕ → ℕ
run class [] = 0
run class (b ∷ bs) = if in_class class b then run class bs + 1 else 0

-- ---- numbers

abbrev pub digit_value : ℕ → ℕ
digit_value b = if nat_le b 57 then b - 48 else (if nat_le b 70 then b - 55 else b - 87)

-- the value of digits in a base, after those whose value is at hand
abbrev pub value : ℕ → ℕ → List ℕ → ℕ
value base sum [] = sum
value base sum (d ∷ ds) = value base (sum * base + digit_value d) ds

-- the number, where it is at most 2^63 - 1
abbrev pub below_limit : ℕ → Option ℤ
below_limit n = if nat_lt n (2 ^ 63) then Some (pos n) else None

abbrev pub front_of_value : Option ℤ → ℕ → Front
front_of_value (Some z) width = Begins (Number z) width
front_of_value None width = Large width

-- whether `0x` and a hexadecimal digit stand at the front
abbrev pub is_prefixed : List ℕ → Bool
is_prefixed [] = false
is_prefixed (a ∷ []) = false
is_prefixed (a ∷ b ∷ []) = false
is_prefixed (a ∷ b ∷ c ∷ bs) = a == 48 && b == 120 && is_hexadecimal c

abbrev pub decimal_front : List ℕ → Front
decimal_front bs = front_of_value (below_limit (value 10 0 (take (run Digit bs) bs))) (run Digit bs)

abbrev pub hexadecimal_front : List ℕ → Front
hexadecimal_front digits = front_of_value (below_limit (value 16 0 (take (run Hexadecimal digits) digits))) (run Hexadecimal digits + 2)

abbrev pub number_front : List ℕ → Front
number_front bs = if is_prefixed bs then hexadecimal_front (drop 2 bs) else decimal_front bs

-- ---- names and reserved words

abbrev pub reserved : List Reserved
reserved = For ∷ To ∷ Do ∷ Switch ∷ Case ∷ Else ∷ Where ∷ Start ∷ EndWord ∷ Eoi ∷ Tok ∷ Many ∷ []

-- the first of the words that is spelled so
abbrev pub spelled : List Reserved → List ℕ → Option Reserved
spelled [] name = None
spelled (w ∷ ws) name = if bytes_eq name (spelling w) then Some w else spelled ws name

abbrev pub reserved_of : List ℕ → Option Reserved
reserved_of = spelled reserved

abbrev pub word_or : Option Reserved → List ℕ → TokenKind
word_or (Some w) name = Word w
word_or None name = Name name

abbrev pub word : List ℕ → TokenKind
word name = word_or (reserved_of name) name

abbrev pub name_front : List ℕ → Front
name_front bs = Begins (word (take (run Naming bs) bs)) (run Naming bs)

-- ---- strings

abbrev pub is_plain : ℕ → Bool
is_plain b = between 32 126 b

-- what stands after a backslash
abbrev pub escape : List ℕ → Item
escape [] = Bad
escape (b ∷ []) = if b == 34 || b == 92 then Byte b 2 else Bad
escape (b ∷ h ∷ []) = if b == 34 || b == 92 then Byte b 2 else Bad
escape (b ∷ h ∷ l ∷ bs) =
    if b == 34 || b == 92 then Byte b 2 else
    (if b == 120 && is_hexadecimal h && is_hexadecimal l then Byte (digit_value h * 16 + digit_value l) 4 else Bad)

abbrev pub item : ℕ → List ℕ → Item
item b bs = if b == 34 then End else (if b == 92 then escape bs else (if is_plain b then Byte b 1 else Bad))

-- the bytes of a string and its width with its quotes
pub record Quoted : Type 0 where
  pub bytes : List ℕ
  pub width : ℕ

-- what stands before what is left of a string
abbrev pub after_bytes : List ℕ → ℕ → Option Quoted → Option Quoted
after_bytes bs n (Some q) = Some (record { bytes = bs ++ q.bytes; width = q.width + n })
after_bytes bs n None = None

abbrev pub with_item : Item → (ℕ → Option Quoted) → Option Quoted
with_item End rest = Some (record { bytes = []; width = 1 })
with_item (Byte b n) rest = after_bytes (b ∷ []) n (rest (n - 1))
with_item Bad rest = None

-- the items after the opening quote; `skip` bytes belong to an item that began before
abbrev pub quoted : ℕ → List ℕ → Option Quoted
quoted skip [] = None
quoted (suc skip) (b ∷ bs) = quoted skip bs
quoted zero (b ∷ bs) = with_item (item b bs) (λ more. quoted more bs)

abbrev pub text_front : Option Quoted → Front
text_front (Some q) = Begins (Text q.bytes) (q.width + 1)
text_front None = Nothing

abbrev pub string_front : List ℕ → Front
string_front after = text_front (quoted 0 after)

-- ---- symbols

abbrev pub is_pair : ℕ → ℕ → Bool
is_pair a b =
    (a == 45 && b == 62) || (a == 60 && b == 60) || (a == 62 && b == 62) || (a == 61 && b == 61) || (a == 33 && b == 61)
    || (a == 60 && b == 61) || (a == 62 && b == 61) || (a == 38 && b == 38) || (a == 124 && b == 124)

-- `%&`, `()*+,-./`, `:;<=>?`, `!`, `[`, `]`, `^`, `{|}`
abbrev pub is_single : ℕ → Bool
is_single a =
    between 37 38 a || between 40 47 a || between 58 63 a || a == 33 || a == 91 || a == 93 || a == 94 || between 123 125 a

abbrev pub single_front : ℕ → Front
single_front a = if is_single a then Begins (Symbol (a ∷ [])) 1 else Nothing

abbrev pub symbol_front : ℕ → List ℕ → Front
symbol_front a [] = single_front a
symbol_front a (b ∷ bs) = if is_pair a b then Begins (Symbol (a ∷ b ∷ [])) 2 else single_front a

-- ---- what begins at the front

abbrev pub front_at : ℕ → List ℕ → Front
front_at b bs =
    if is_white b then Blank (run White (b ∷ bs)) else
    (if b == 35 then Blank (run Comment (b ∷ bs)) else
    (if is_letter b then name_front (b ∷ bs) else
    (if is_digit b then number_front (b ∷ bs) else
    (if b == 34 then string_front bs else symbol_front b bs))))

abbrev pub front_of : List ℕ → Front
front_of [] = Nothing
front_of (b ∷ bs) = front_at b bs

-- ---- a text

abbrev pub Lexed : Type 0
Lexed = Result (List Token) ReadFault

-- a token before those of the rest
abbrev pub token_first : Token → Lexed → Lexed
token_first t (Ok ts) = Ok (t ∷ ts)
token_first t (Err f) = Err f

-- a number too large comes before a later one, and after a place where nothing begins
abbrev pub large_first : ℕ → Lexed → Lexed
large_first at (Ok ts) = Err (TooLarge at)
large_first at (Err (Lex p)) = Err (Lex p)
large_first at (Err f) = Err (TooLarge at)

abbrev pub beginning : Front → ℕ → (ℕ → Lexed) → Lexed
beginning Nothing at rest = Err (Lex at)
beginning (Blank n) at rest = rest (n - 1)
beginning (Large n) at rest = large_first at (rest (n - 1))
beginning (Begins kind n) at rest = token_first (record { kind = kind; span = record { from = at; to = at + n } }) (rest (n - 1))

-- the tokens from a place on; `skip` bytes belong to what began before
abbrev pub lexed : ℕ → ℕ → List ℕ → Lexed
lexed at skip [] = Ok []
lexed at (suc skip) (b ∷ bs) = lexed (at + 1) skip bs
lexed at zero (b ∷ bs) = beginning (front_at b bs) at (λ more. lexed (at + 1) more bs)

abbrev pub tokens_of : List ℕ → Lexed
tokens_of text = if nat_lt (2 ^ 20) (length text) then Err TooLong else lexed 0 0 text
