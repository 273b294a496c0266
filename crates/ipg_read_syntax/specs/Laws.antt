-- What the answer for a text is, in the words of the grammar of grammars.
use Rattle.std.specs.Prelude.{◌≡◌, ◌⊎◌, ℕ, ◌^◌, ◌≤◌, ◌<◌, true, List, [], ◌∷◌, ◌++◌, length, Some, None, Ok, Err, ◌↔◌}
use Rattle.std.specs.List.{AllByRecursion}
use Rattle.ipg_ast.specs.declared.grammar.Grammar.{Grammar}
use Rattle.ipg_read_tokens.specs.Lexical.{tokens_of}
use Rattle.ipg_read_tokens.specs.declared.token.Token.{Token}
use Rattle.ipg_read_tokens.specs.declared.fault.ReadFault.{ReadFault}
use Rattle.ipg_read_tokens.specs.declared.fault.ReadFault.TheVariants.{TooLong, Lex, Number, Syntax, Limit, Memory}
use Rattle.ipg_read_tokens.specs.declared.fault.Which.{Which}
use Rattle.ipg_read_syntax.specs.Classes.{classes}
use Rattle.ipg_read_syntax.specs.Bare.{bare, bare_toks}
use Rattle.ipg_read_syntax.specs.Written.{RuleTree, Fits, spell}
use Rattle.ipg_read_syntax.specs.Grammars.{grammar_of}
use Rattle.ipg_read_syntax.specs.Limits.{Over, is_over, sizes, first_over}
use Rattle.ipg_read_syntax.specs.Reading.{ReadsTree, Reads, ReadsWithin, place_of, read_of}

-- the tokens are those of a grammar, whatever its size
pub record IsGrammar (ts : List Token) : Type 0 where
  pub tree : List RuleTree
  pub fits : Fits tree
  pub spelled : spell tree ≡ classes ts

-- some grammar begins with the tokens
pub record Begins (ts : List Token) : Type 0 where
  pub more : List Token
  pub grammar : IsGrammar (ts ++ more)

-- no grammar begins with the first tokens and the next; where no token is left, the first are no grammar themselves
abbrev pub EndsBefore : List Token → List Token → Type 0
EndsBefore before [] = IsGrammar before → ⊥
EndsBefore before (t ∷ after) = Begins (before ++ (t ∷ [])) → ⊥

-- the first byte of the first of the tokens left, or the end of the text
abbrev pub first_place : List ℕ → List Token → ℕ
first_place text [] = length text
first_place text (t ∷ ts) = t.span.from

-- a grammar begins with the tokens before the place, and none goes on with the token there
pub record Breaks (text : List ℕ) (place : ℕ) : Type 0 where
  pub before : List Token
  pub after : List Token
  pub falls : tokens_of text ≡ Ok (before ++ after)
  pub begins : Begins before
  pub stops : EndsBefore before after
  pub is : place ≡ first_place text after

-- the text is a grammar, and this limit is the first that it passes
pub record PassesLimit (text : List ℕ) (which : Which) (place : ℕ) : Type 0 where
  pub tree : List RuleTree
  pub reads : ReadsTree text tree
  pub at : ℕ
  pub first : first_over (sizes tree) ≡ Some (record { which = which; at = at })
  pub is : place ≡ place_of text reads.tokens at

-- why a text is refused: it has more than 2^20 bytes, its tokens have a fault, no grammar goes on, or its grammar passes a limit
abbrev pub Refused : List ℕ → ReadFault → Type 0
Refused text TooLong = 2 ^ 20 < length text
Refused text (Lex at) = tokens_of text ≡ Err (Lex at)
Refused text (Number at) = tokens_of text ≡ Err (Number at)
Refused text (Syntax at) = Breaks text at
Refused text (Limit which at) = PassesLimit text which at
Refused text Memory = ⊥

-- a text reads as one grammar at most
abbrev pub OneGrammar : Type 0
OneGrammar = (text : List ℕ) (g h : Grammar) → Reads text g → Reads text h → g ≡ h

-- the answer is a grammar exactly where the text reads as it within the limits
abbrev pub ReadsExactly : Type 0
ReadsExactly = (text : List ℕ) (g : Grammar) → (read_of text ≡ Ok g) ↔ ReadsWithin text g

-- a text that reads as no grammar within the limits is refused, for that very reason
abbrev pub RefusedExactly : Type 0
RefusedExactly = (text : List ℕ) (fault : ReadFault) → (read_of text ≡ Err fault) ↔ Refused text fault

-- a text reads as a grammar or is refused, not both, and for one reason
pub record OneAnswer (text : List ℕ) : Type 0 where
  pub some : ((g : Grammar) × ReadsWithin text g) ⊎ ((fault : ReadFault) × Refused text fault)
  pub apart : (g : Grammar) (fault : ReadFault) → ReadsWithin text g → Refused text fault → ⊥
  pub one : (fault other : ReadFault) → Refused text fault → Refused text other → fault ≡ other

abbrev pub AlwaysOneAnswer : Type 0
AlwaysOneAnswer = (text : List ℕ) → OneAnswer text

-- a fault of syntax has exactly the place up to which a grammar goes on
abbrev pub SyntaxPlace : Type 0
SyntaxPlace = (text : List ℕ) (place : ℕ) → (read_of text ≡ Err (Syntax place)) ↔ Breaks text place

-- a fault of a limit is the first that the grammar passes
abbrev pub LimitPlace : Type 0
LimitPlace = (text : List ℕ) (which : Which) (place : ℕ) → (read_of text ≡ Err (Limit which place)) ↔ PassesLimit text which place

-- a text too long, a place where no token begins, or a number too large
abbrev pub IsOfTokens : ReadFault → Type 0
IsOfTokens TooLong = Unit {0}
IsOfTokens (Lex at) = Unit {0}
IsOfTokens (Number at) = Unit {0}
IsOfTokens (Syntax at) = ⊥
IsOfTokens (Limit which at) = ⊥
IsOfTokens Memory = ⊥

-- such a fault is answered exactly where the text falls into no tokens, and is that of its tokens
abbrev pub TokensFirst : Type 0
TokensFirst = (text : List ℕ) (fault : ReadFault) → (tokens_of text ≡ Err fault) ↔ (IsOfTokens fault × (read_of text ≡ Err fault))

-- the token of the limit told is there, and no other limit is passed at a lesser place
abbrev pub LimitIsLeast : Type 0
LimitIsLeast = (text : List ℕ) (tree : List RuleTree) (r : ReadsTree text tree) (over : Over) → first_over (sizes tree) ≡ Some over
    → (over.at < length r.tokens) × AllByRecursion (λ z. is_over z ≡ true → place_of text r.tokens over.at ≤ place_of text r.tokens z.at) (sizes tree)

-- ---- places

-- the answer is the grammar but for the places of its tokens
pub record ReadsBack (text : List ℕ) (g : Grammar) : Type 0 where
  pub found : Grammar
  pub answer : read_of text ≡ Ok found
  pub same : bare found ≡ bare g

-- a text whose tokens, but for their places, are those of a grammar within the limits reads as that grammar
abbrev pub ReadsButForPlaces : Type 0
ReadsButForPlaces = (text : List ℕ) (ts : List Token) (tree : List RuleTree) → tokens_of text ≡ Ok ts → bare_toks (classes ts) ≡ bare_toks (spell tree)
    → Fits tree → first_over (sizes tree) ≡ None → ReadsBack text (grammar_of tree)
