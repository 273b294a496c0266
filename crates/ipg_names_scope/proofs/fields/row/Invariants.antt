use Rattle.std.proofs.Common.{◌≡◌, ◌++◌, ℕ, List, map, drop}
use Rattle.ipg_names_scope.specs.Scope.{alt_sets}
use Rattle.ipg_names_scope.specs.Fields.{alts_set}
use Rattle.ipg_names_scope.proofs.fields.row.Given as goal

abbrev pub invariant-loop-alt : goal.invariant-loop-alt
invariant-loop-alt l = (f : List ℕ) → alts_set f l.row.items ++ map (alt_sets f) (drop l.alt-index l.alts) ≡ map (alt_sets f) l.alts
