-- The orders of answers of commands that ask of a grammar alone.
use Rattle.std.specs.Prelude.{ℕ, List, codes}
use Rattle.ipg_ast.specs.declared.grammar.Grammar as written
use Rattle.ipg_read_tokens.specs.Shaped.{canonical_text}
use Rattle.ipg_core.specs.Grammar.{Grammar}
use Rattle.ipg_app_text.specs.Said.{done, done_line}
use Rattle.ipg_app_grammar.specs.Checks.{Checks}
use Rattle.ipg_app_grammar.specs.Certificate.{Certifies, Reads, Judges}
use Rattle.ipg_app_grammar.specs.Tables.{Tables, Loads}
use Rattle.ipg_app_grammar.specs.Covering.{CoverSays}
use Rattle.ipg_app_grammar.specs.Followed.{Cleared, Clears, or_told}
use Rattle.ipg_app_text.specs.Order.{Order, Step, says, only, found, have, ◌>>=◌}

-- G13
abbrev pub accepted : Grammar → Step Grammar
accepted g next = do
  answer ← found (Checks g)
  same ← have answer
  next same

abbrev pub check : Grammar → Order
check g = do
  same ← accepted g
  only (done_line (codes "accepted"))

abbrev pub cert : Grammar → Order
cert g = do
  same ← accepted g
  says (Certifies same)

abbrev pub table : Grammar → Order
table g = do
  same ← accepted g
  says (Tables same)

abbrev pub cover : Grammar → Order
cover g = do
  same ← accepted g
  says (CoverSays same)

-- C1, then C2 and C3
abbrev pub judge : List ℕ → Grammar → Order
judge text g = do
  read ← found (Reads text)
  c ← have read
  says (Judges g c)

-- L1 to L6
abbrev pub held_in : List ℕ → Step Grammar
held_in file next = do
  answer ← found (Loads file)
  g ← have answer
  next g

abbrev pub formatted : written.Grammar → Order
formatted g = only (done (canonical_text g))

-- the same of a text, where it is refused
abbrev pub cleared : (name text : List ℕ) → Step Cleared
cleared name text next = do
  answer ← found (Clears text)
  made ← have (or_told name text answer)
  next made
