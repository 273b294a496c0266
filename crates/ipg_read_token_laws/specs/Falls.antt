-- What a whole text falls into, and the law that the answer for it says exactly that.
use Rattle.std.specs.Prelude.{◌≡◌, ◌≢◌, ◌↔◌, ℕ, ◌+◌, ◌≤◌, ◌<◌, ◌^◌, List, [], ◌∷◌, ◌++◌, drop, length, Ok, Err}
use Rattle.ipg_read_tokens.specs.declared.token.Token.{Token}
use Rattle.ipg_read_tokens.specs.declared.fault.ReadFault.TheVariants.{TooLong, Lex, Number}
use Rattle.ipg_read_tokens.specs.declared.front.Front.{Front}
use Rattle.ipg_read_tokens.specs.declared.front.Front.TheVariants.{Nothing, Blank, Large, Token as Begins}
use Rattle.ipg_read_tokens.specs.Lexical.{Lexed, tokens_of}
use Rattle.ipg_read_token_laws.specs.Forms.{Taken}

-- ---- pieces: white space, comments, tokens, and numbers of 2^63 and more

-- how many bytes a piece takes
abbrev pub width : Front → ℕ
width Nothing = 0
width (Blank n) = n
width (Large n) = n
width (Begins kind n) = n

abbrev pub widths : List Front → ℕ
widths [] = 0
widths (piece ∷ pieces) = width piece + widths pieces

-- the text falls into the pieces and a rest: each piece is what is taken where the last one ends, and never nothing
abbrev pub Falls : List Front → List ℕ → List ℕ → Type 0
Falls [] text rest = text ≡ rest
Falls (piece ∷ pieces) text rest = Taken piece text × (piece ≢ Nothing) × Falls pieces (drop (width piece) text) rest

-- the tokens among the pieces, each with the bytes that it takes; the first piece begins at `at`
abbrev pub tokens_in : ℕ → List Front → List Token
tokens_in at [] = []
tokens_in at (Begins kind n ∷ pieces) =
    record { kind = kind; span = record { from = at; to = at + n } } ∷ tokens_in (at + n) pieces
tokens_in at (piece ∷ pieces) = tokens_in (at + width piece) pieces

-- no piece is a number of 2^63 and more
abbrev pub NoneLarge : List Front → Type 0
NoneLarge [] = Unit {0}
NoneLarge (Large n ∷ pieces) = ⊥
NoneLarge (piece ∷ pieces) = NoneLarge pieces

-- ---- what an answer says

-- the whole text falls into pieces, none a number too large, and these are the tokens among them
pub record FallsInto (text : List ℕ) (ts : List Token) : Type 0 where
  pub pieces : List Front
  pub whole : Falls pieces text []
  pub small : NoneLarge pieces
  pub tokens : ts ≡ tokens_in 0 pieces

-- what stands before the place falls into pieces, numbers too large or not; bytes are left there, and nothing is taken
pub record Stops (text : List ℕ) (at : ℕ) : Type 0 where
  pub before : List Front
  pub byte : ℕ
  pub after : List ℕ
  pub falls : Falls before text (byte ∷ after)
  pub nothing : Taken Nothing (byte ∷ after)
  pub place : at ≡ widths before

-- the whole text falls into pieces, and the first number too large among them begins at the place
pub record HasLarge (text : List ℕ) (at : ℕ) : Type 0 where
  pub before : List Front
  pub n : ℕ
  pub after : List Front
  pub whole : Falls (before ++ (Large n ∷ after)) text []
  pub first : NoneLarge before
  pub place : at ≡ widths before

-- a text too long is told first, then a place where nothing is taken, then a number too large
abbrev pub FallsSo : List ℕ → Lexed → Type 0
FallsSo text (Ok ts) = (length text ≤ 2 ^ 20) × FallsInto text ts
FallsSo text (Err TooLong) = 2 ^ 20 < length text
FallsSo text (Err (Lex at)) = (length text ≤ 2 ^ 20) × Stops text at
FallsSo text (Err (Number at)) = (length text ≤ 2 ^ 20) × HasLarge text at
FallsSo text (Err other) = ⊥

abbrev pub FallsExactly : Type 0
FallsExactly = (text : List ℕ) (answer : Lexed) → (tokens_of text ≡ answer) ↔ FallsSo text answer
