use Rattle.std.proofs.Common.{◌≡◌, drop}
use Rattle.ipg_touch.specs.Loose as spec
use Rattle.ipg_touch.proofs.repetitions.loose_alt.Given as goal

-- what is left answers as the whole
abbrev pub invariant-loop-alt : goal.invariant-loop-alt
invariant-loop-alt l = spec.loose_alt l.touch l.alt (drop l.alt l.alts) ≡ spec.loose_alt l.touch 0 l.alts
