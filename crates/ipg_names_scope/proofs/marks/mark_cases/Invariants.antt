use Rattle.std.proofs.Common.{◌≡◌, ℕ, List, drop}
use Rattle.ipg_names_scope.specs.Marks.{look, marks_on, cases_call}
use Rattle.ipg_names_scope.proofs.marks.mark_cases.Given as goal

abbrev pub invariant-loop-case : goal.invariant-loop-case
invariant-loop-case l = (x : List ℕ) → marks_on l.mark x (cases_call (drop l.case-index l.cases)) (look l.places x) ≡ marks_on l.mark x
    (cases_call l.cases) (look l.initial.places x)
