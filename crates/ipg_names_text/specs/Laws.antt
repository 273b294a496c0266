-- What a text reads as is within the limits up to which names are resolved.
use Rattle.std.specs.Prelude.{◌≡◌, ℕ, List, Ok}
use Rattle.ipg_ast.specs.declared.grammar.Grammar.{Grammar}
use Rattle.ipg_read_syntax.specs.Reading.{read_of}
use Rattle.ipg_names.specs.Readable.{IsReadable}

-- the names of what a text reads as can be resolved
abbrev pub ReadIsReadable : Type 0
ReadIsReadable = (text : List ℕ) (g : Grammar) → read_of text ≡ Ok g → IsReadable g
