use Rattle.std.proofs.Common.{◌≡◌, drop}
use Rattle.ipg_core.specs.MustTouch as spec
use Rattle.ipg_touch.proofs.marks.cases_marked.Given as goal

-- what is left answers as the whole
abbrev pub invariant-loop-case : goal.invariant-loop-case
invariant-loop-case l = spec.cases_marked l.marks (drop l.case-index l.cases) ≡ spec.cases_marked l.marks l.cases
