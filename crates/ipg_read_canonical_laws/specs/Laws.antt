-- A grammar, its canonical text, and what that text reads as.
use Rattle.std.specs.Prelude.{◌≡◌, ℕ, ◌≤◌, ◌^◌, List, length, Ok, map}
use Rattle.ipg_ast.specs.declared.grammar.Grammar.{Grammar}
use Rattle.ipg_ast.specs.declared.token.TokenKind.{TokenKind}
use Rattle.ipg_ast.specs.Spelling.{grammar_tokens}
use Rattle.ipg_ast.specs.Shape.{IsFormed}
use Rattle.ipg_read_tokens.specs.Lexical.{tokens_of}
use Rattle.ipg_read_tokens.specs.Shaped.{IsShaped, canonical_text}
use Rattle.ipg_read_tokens.specs.declared.token.Token.{Token}
use Rattle.ipg_read_syntax.specs.Reading.{Reads, ReadsWithin, read_of}
use Rattle.ipg_read_syntax.specs.Laws.{ReadsBack}

abbrev pub kinds : List Token → List TokenKind
kinds ts = map (λ t. t.kind) ts

-- a text with the tokens of a well formed grammar reads as that grammar
abbrev pub ReadsTokensBack : Type 0
ReadsTokensBack = (text : List ℕ) (g : Grammar) (ts : List Token) → IsFormed g → tokens_of text ≡ Ok ts → kinds ts ≡ grammar_tokens g → ReadsBack text g

-- the tokens of a text are those of the grammar that it reads as
abbrev pub KeepsTokens : Type 0
KeepsTokens = (text : List ℕ) (g : Grammar) (ts : List Token) → Reads text g → tokens_of text ≡ Ok ts → kinds ts ≡ grammar_tokens g

-- what a text reads as within the limits is well formed
abbrev pub ReadsFormed : Type 0
ReadsFormed = (text : List ℕ) (g : Grammar) → ReadsWithin text g → IsFormed g

-- what a text reads as within the limits is in shape, where its canonical text is short enough to be read
abbrev pub ReadsShaped : Type 0
ReadsShaped = (text : List ℕ) (g : Grammar) → ReadsWithin text g → length (canonical_text g) ≤ 2 ^ 20 → IsShaped g

-- ---- canonical texts

-- the canonical text of a grammar in shape reads as that grammar
abbrev pub RoundTrip : Type 0
RoundTrip = (g : Grammar) → IsShaped g → ReadsBack (canonical_text g) g

pub record StaysWritten (g : Grammar) : Type 0 where
  pub found : Grammar
  pub answer : read_of (canonical_text g) ≡ Ok found
  pub same : canonical_text found ≡ canonical_text g

-- the canonical text of what is read, where it is short enough, is its own canonical text
abbrev pub CanonicalStays : Type 0
CanonicalStays = (text : List ℕ) (g : Grammar) → read_of text ≡ Ok g → length (canonical_text g) ≤ 2 ^ 20 → StaysWritten g
