-- The tables of attributes, as what they say of one.
use Rattle.std.specs.Prelude.{ℕ, Bool, List, map, is_some}
use denote.Ref.{Bor}
use Rattle.indexmap.specs.IndexMap.{IndexMap}
use Rattle.ipg_names_scope.specs.declared.marks.Spots.{Spots}
use Rattle.ipg_names_scope.specs.Roster.{ListedRule, alts_of}
use Rattle.ipg_names_scope.specs.Scope.{alt_sets}
use Rattle.ipg_names_scope.specs.Marks.{look}

-- for each table of a row, whether it has the attribute
abbrev pub alts_set : {S : Type 0} → List ℕ → List (IndexMap (Bor (List ℕ)) Spots S) → List Bool
alts_set f row = map (λ places. is_some (look places f)) row

-- for each alternative of a rule, whether it sets the attribute
abbrev pub row_of : List ℕ → ListedRule → List Bool
row_of f entry = map (alt_sets f) (alts_of entry)

abbrev pub rows_set : {S : Type 0} → List ℕ → List (List (IndexMap (Bor (List ℕ)) Spots S)) → List (List Bool)
rows_set f rows = map (alts_set f) rows
