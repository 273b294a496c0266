use Rattle.std.proofs.Common.{◌≡◌, ℕ, List, take}
use Rattle.ipg_names_scope.specs.Terms.{has}
use Rattle.ipg_names_scope.specs.Marks.{look, spots_of}
use Rattle.ipg_names_scope.proofs.marks.places.Given as goal

abbrev pub invariant-loop-u : goal.invariant-loop-u
invariant-loop-u l = (x : List ℕ) → look l.places x ≡ spots_of (has l.family x) (take l.u l.terms) 0
