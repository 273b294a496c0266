-- Fields of what is no array and no repetition, and rows by signed indices.
use Rattle.std.specs.Prelude.{ℕ, List, Option, Some, None, ℤ, pos, negsuc, slice_get}
use Rattle.ipg_core.specs.declared.grammar.CoreField.{CoreField}
use Rattle.ipg_core.specs.declared.grammar.CoreField.TheVariants.{Attr, Start, End}
use Rattle.ipg_core.specs.Tree.{Kid}
use Rattle.ipg_core.specs.Touch.{ends_of}
use Rattle.ipg_core.specs.Environment.{attr_of}
use Rattle.ipg_mach_nodes.specs.declared.kid.Kid as row

-- a field of what is no array and no repetition
abbrev pub any_field : List (List ℕ) → CoreField → Kid → Option ℤ
any_field names (Attr a) k = attr_of names a k
any_field names Start k = Some (pos (ends_of k).start)
any_field names End k = Some (pos (ends_of k).end)

-- the row at an index, which is none at a negative one
abbrev pub row_at : List row.Kid → ℤ → Option row.Kid
row_at rows (pos n) = slice_get rows n
row_at rows (negsuc n) = None
