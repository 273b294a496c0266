use Rattle.std.proofs.Common.{◌≡◌, drop}
use Rattle.ipg_touch.specs.Loose as spec
use Rattle.ipg_touch.proofs.repetitions.loose_term.Given as goal

-- what is left answers as the whole
abbrev pub invariant-loop-term : goal.invariant-loop-term
invariant-loop-term l = spec.loose_term l.touch l.term (drop l.term l.terms) ≡ spec.loose_term l.touch 0 l.terms
