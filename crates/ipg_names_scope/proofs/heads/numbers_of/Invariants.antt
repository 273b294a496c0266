use Rattle.std.proofs.Common.{◌≡◌, ℕ, List, take}
use Rattle.ipg_names_scope.specs.Scope.{rule_named}
use Rattle.ipg_names_scope.specs.Marks.{look}
use Rattle.ipg_names_scope.specs.View.{entries_view}
use Rattle.ipg_names_scope.proofs.heads.numbers_of.Given as goal

abbrev pub invariant-loop-r : goal.invariant-loop-r
invariant-loop-r l = (x : List ℕ) → look l.numbers x ≡ rule_named (entries_view (take l.r l.roster)) x
