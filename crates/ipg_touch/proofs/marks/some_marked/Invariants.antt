use Rattle.std.proofs.Common.{◌≡◌, drop}
use Rattle.ipg_core.specs.MustTouch as spec
use Rattle.ipg_touch.proofs.marks.some_marked.Given as goal

-- what is left answers as the whole
abbrev pub invariant-loop-term : goal.invariant-loop-term
invariant-loop-term l = spec.some_marked l.marks (drop l.term-index l.terms) ≡ spec.some_marked l.marks l.terms
