-- The rows of a node: the results of its terms, and its attributes.
use Rattle.std.specs.Prelude.{ℕ, List, [], ◌∷◌, ◌++◌, Option, Some, None}
use Rattle.ipg_core.specs.Environment.{Values, value_at}
use Rattle.ipg_core.specs.Meaning.{entry}
use Rattle.ipg_mach_nodes.specs.declared.kid.Kid.{Kid}
use Rattle.ipg_mach_slot.specs.declared.now.Done.{Done}

-- the results of terms in text order
abbrev pub rows_done : List (Option Done) → List Kid
rows_done [] = []
rows_done (None ∷ rows) = rows_done rows
rows_done (Some row ∷ rows) = row.kid ∷ rows_done rows

-- these attributes with their values, those that have one
abbrev pub attrs_at : Values → List ℕ → Values
attrs_at own [] = []
attrs_at own (a ∷ sets) = entry a (value_at own a) ++ attrs_at own sets
