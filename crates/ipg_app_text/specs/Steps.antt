-- Steps that read a text or an input, and find a grammar.
use Rattle.std.specs.Prelude.{ℕ, ◌^◌, List, length, nat_le, Result, Ok, Err, Option, None, Some, if◌then◌else◌}
use Rattle.ipg_ast.specs.declared.grammar.Grammar as written
use Rattle.ipg_core.specs.Grammar.{Grammar}
use Rattle.ipg_formats.specs.declared.Kind.{Kind}
use Rattle.ipg_formats.specs.Names.{kind_of}
use Rattle.ipg_formats.specs.Text.{text_of}
use Rattle.ipg_app_text.specs.Said.{Said, too_large}
use Rattle.ipg_app_text.specs.CoreOf.{grammar_in, CoreOf}
use Rattle.ipg_app_text.specs.Order.{Step, found, have, contents, ◌>>=◌}

-- the text of a built-in grammar, by its name, or of a file
abbrev pub text_by : Option Kind → List ℕ → Step (List ℕ)
text_by (Some kind) name next = next (text_of kind)
text_by None name next = contents name next

abbrev pub text_under : List ℕ → Step (List ℕ)
text_under name = text_by (kind_of name) name

-- G1 to G5
abbrev pub grammar_of : List ℕ → Step written.Grammar
grammar_of text = have (grammar_in text)

abbrev pub grammar_under : List ℕ → Step written.Grammar
grammar_under name next = do
  text ← text_under name
  grammar_of text next

-- G1 to G12, then G14
abbrev pub core_of : List ℕ → Step Grammar
core_of text next = do
  answer ← found (CoreOf text)
  g ← have answer
  next g

abbrev pub core_under : List ℕ → Step Grammar
core_under name next = do
  text ← text_under name
  core_of text next

abbrev pub max_input : ℕ
max_input = 2 ^ 30

abbrev pub input_in : List ℕ → Result (List ℕ) Said
input_in bytes = if nat_le (length bytes) max_input then Ok bytes else Err too_large
