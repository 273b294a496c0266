-- When a text reads as a grammar, and the answer for a text.
use Rattle.std.specs.Prelude.{◌≡◌, ℕ, zero, suc, List, [], ◌∷◌, Option, Some, None, Result, Ok, Err, length}
use Rattle.ipg_ast.specs.declared.grammar.Grammar.{Grammar}
use Rattle.ipg_read_tokens.specs.Lexical.{tokens_of}
use Rattle.ipg_read_tokens.specs.declared.token.Token.{Token}
use Rattle.ipg_read_tokens.specs.declared.fault.ReadFault.{ReadFault}
use Rattle.ipg_read_tokens.specs.declared.fault.ReadFault.TheVariants.{Syntax, Limit}
use Rattle.ipg_read_syntax.specs.Classes.{classes}
use Rattle.ipg_read_syntax.specs.Written.{RuleTree, Fits, spell}
use Rattle.ipg_read_syntax.specs.Limits.{Over, sizes, first_over}
use Rattle.ipg_read_syntax.specs.Machine.{Read, verdict, start_state}
use Rattle.ipg_read_syntax.specs.Counting.{counters}
use Rattle.ipg_read_syntax.specs.Grammars.{grammar_of}
use Rattle.ipg_read_syntax.specs.Making.{made}

-- a tree that stands at its levels has just the text's tokens
pub record ReadsTree (text : List ℕ) (t : List RuleTree) : Type 0 where
  pub tokens : List Token
  pub falls : tokens_of text ≡ Ok tokens
  pub fits : Fits t
  pub spelled : spell t ≡ classes tokens

-- the text reads as the grammar: its tokens are those of it, and spans are the places of tokens
pub record Reads (text : List ℕ) (g : Grammar) : Type 0 where
  pub tree : List RuleTree
  pub reads : ReadsTree text tree
  pub is : g ≡ grammar_of tree

-- the same, and no limit is passed
pub record ReadsWithin (text : List ℕ) (g : Grammar) : Type 0 where
  pub tree : List RuleTree
  pub reads : ReadsTree text tree
  pub is : g ≡ grammar_of tree
  pub within : first_over (sizes tree) ≡ None

-- the first byte of the token of a number, or the end of the text
abbrev pub place_of : List ℕ → List Token → ℕ → ℕ
place_of text [] n = length text
place_of text (t ∷ ts) zero = t.span.from
place_of text (t ∷ ts) (suc n) = place_of text ts n

abbrev pub made_answer : List ℕ → List Token → Result (Read made) ℕ → Result Grammar ReadFault
made_answer text ts (Ok r) = Ok (record { rules = r.rules })
made_answer text ts (Err n) = Err (Syntax (place_of text ts n))

abbrev pub within_answer : List ℕ → List Token → Option Over → Result Grammar ReadFault
within_answer text ts (Some o) = Err (Limit o.which (place_of text ts o.at))
within_answer text ts None = made_answer text ts (verdict made 0 (start_state made) (classes ts))

abbrev pub counted_answer : List ℕ → List Token → Result (Read counters) ℕ → Result Grammar ReadFault
counted_answer text ts (Err n) = Err (Syntax (place_of text ts n))
counted_answer text ts (Ok r) = within_answer text ts r.log.over

abbrev pub tokens_answer : List ℕ → Result (List Token) ReadFault → Result Grammar ReadFault
tokens_answer text (Err f) = Err f
tokens_answer text (Ok ts) = counted_answer text ts (verdict counters 0 (start_state counters) (classes ts))

-- the answer for a text: counted first, and made where no limit is passed
abbrev pub read_of : List ℕ → Result Grammar ReadFault
read_of text = tokens_answer text (tokens_of text)
