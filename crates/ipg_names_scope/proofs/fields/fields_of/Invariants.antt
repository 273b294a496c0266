use Rattle.std.proofs.Common.{◌≡◌, ◌++◌, ℕ, List, map, drop}
use Rattle.ipg_names_scope.specs.Fields.{rows_set, row_of}
use Rattle.ipg_names_scope.specs.View.{entries_view}
use Rattle.ipg_names_scope.proofs.fields.fields_of.Given as goal

abbrev pub invariant-loop-entry : goal.invariant-loop-entry
invariant-loop-entry l = (f : List ℕ) → rows_set f l.rows.items ++ map (row_of f) (entries_view (drop l.entry-index l.roster)) ≡ map (row_of f)
    (entries_view l.roster)
