-- What the bytes of a token are, with its value, and two laws: the longest token is taken, and no text spells two.
use Rattle.std.specs.Prelude.{◌≡◌, ◌≢◌, ◌↔◌, ℕ, ◌≤◌, ◌<◌, ◌^◌, ◌⊎◌, Bool, true, List, [], ◌∷◌, ◌++◌, take, length, codes, pos, negsuc}
use Rattle.std.specs.List.{list_all}
use Rattle.ipg_ast.specs.Canonical.{spelling}
use Rattle.ipg_ast.specs.declared.token.TokenKind.{TokenKind}
use Rattle.ipg_ast.specs.declared.token.TokenKind.TheVariants.{Name, Word, Number, Text, Symbol}
use Rattle.ipg_read_tokens.specs.declared.front.Front.{Front}
use Rattle.ipg_read_tokens.specs.declared.front.Front.TheVariants.{Nothing, Blank, Large, Token as Begins}
use Rattle.ipg_read_tokens.specs.declared.class.Class.TheVariants.{Comment}
use Rattle.ipg_read_tokens.specs.Lexical.{in_class, is_white, is_digit, is_hexadecimal, is_plain, value, front_of}
use Rattle.ipg_read_tokens.specs.Shaped.{IsToken}

-- one byte or more, all of a class
abbrev pub SomeOf : (ℕ → Bool) → List ℕ → Type 0
SomeOf class bs = (bs ≢ []) × (list_all class bs ≡ true)

-- ---- numbers

-- digits in base ten, or `0x` and digits in base sixteen
abbrev pub Numeral : ℕ → List ℕ → Type 0
Numeral n bs =
    (SomeOf is_digit bs × (n ≡ value 10 0 bs))
    ⊎ ((digits : List ℕ) × (bs ≡ codes "0x" ++ digits) × SomeOf is_hexadecimal digits × (n ≡ value 16 0 digits))

-- ---- strings

abbrev pub quote : ℕ
quote = 34

abbrev pub backslash : ℕ
backslash = 92

-- what stands in a string for a byte: the byte itself, `\"` or `\\`, or `\x` and two hexadecimal digits
pub data Stands (item : List ℕ) (byte : ℕ) : Type 0 where
  plain : item ≡ byte ∷ [] → is_plain byte ≡ true → byte ≢ quote → byte ≢ backslash → Stands item byte
  escaped : item ≡ backslash ∷ byte ∷ [] → (byte ≡ quote) ⊎ (byte ≡ backslash) → Stands item byte
  coded : (high low : ℕ) → item ≡ codes "\\x" ++ (high ∷ low ∷ []) → is_hexadecimal high ≡ true → is_hexadecimal low ≡ true
      → byte ≡ value 16 0 (high ∷ low ∷ []) → Stands item byte

-- what follows an opening quote: what stands for each byte of the string, and the closing quote
abbrev pub Closes : List ℕ → List ℕ → Type 0
Closes [] text = text ≡ quote ∷ []
Closes (byte ∷ bytes) text =
    (item : List ℕ) × (rest : List ℕ) × (text ≡ item ++ rest) × Stands item byte × Closes bytes rest

-- ---- tokens

-- the bytes spell the token; a number may be of any size
abbrev pub Spells : TokenKind → List ℕ → Type 0
Spells (Name name) bs = (bs ≡ name) × IsToken (Name name)
Spells (Word w) bs = bs ≡ spelling w
Spells (Number (pos n)) bs = Numeral n bs
Spells (Number (negsuc n)) bs = ⊥
Spells (Text bytes) bs = (text : List ℕ) × (bs ≡ quote ∷ text) × Closes bytes text
Spells (Symbol symbol) bs = (bs ≡ symbol) × IsToken (Symbol symbol)

abbrev pub IsSpelled : List ℕ → Type 0
IsSpelled bs = (kind : TokenKind) × Spells kind bs

-- white space, or a comment: `#` and what stands before the next line feed
abbrev pub IsBlank : List ℕ → Type 0
IsBlank bs =
    SomeOf is_white bs
    ⊎ ((comment : List ℕ) × (bs ≡ codes "#" ++ comment) × (list_all (in_class Comment) comment ≡ true))

-- ---- the longest

-- no prefix of more than n bytes is such a text
abbrev pub NoneBeyond : (List ℕ → Type 0) → ℕ → List ℕ → Type 0
NoneBeyond Is n bs = (m : ℕ) → n < m → m ≤ length bs → Is (take m bs) → ⊥

-- the prefix of n bytes is such a text, and no longer one is
abbrev pub IsLongest : (List ℕ → Type 0) → ℕ → List ℕ → Type 0
IsLongest Is n bs = (n ≤ length bs) × Is (take n bs) × NoneBeyond Is n bs

-- what is taken at the front; a number of 2^63 and more is no token
abbrev pub Taken : Front → List ℕ → Type 0
Taken Nothing bs = NoneBeyond IsBlank 0 bs × NoneBeyond IsSpelled 0 bs
Taken (Blank n) bs = IsLongest IsBlank n bs × NoneBeyond IsSpelled 0 bs
Taken (Large n) bs = IsLongest IsSpelled n bs × ((v : ℕ) × Numeral v (take n bs) × (2 ^ 63 ≤ v))
Taken (Begins kind n) bs = IsLongest IsSpelled n bs × Spells kind (take n bs) × IsToken kind

abbrev pub TakesTheLongest : Type 0
TakesTheLongest = (bs : List ℕ) (front : Front) → (front_of bs ≡ front) ↔ Taken front bs

abbrev pub SpellsOne : Type 0
SpellsOne = (bs : List ℕ) (kind other : TokenKind) → Spells kind bs → Spells other bs → kind ≡ other
