use Rattle.std.proofs.Common.{◌≡◌, drop}
use Rattle.ipg_touch.specs.Loose as spec
use Rattle.ipg_touch.proofs.repetitions.loose.Given as goal

-- what is left answers as the whole
abbrev pub invariant-loop-rule : goal.invariant-loop-rule
invariant-loop-rule l = spec.loose_rule l.touch l.rule (drop l.rule l.body-items) ≡ spec.loose_rule l.touch 0 l.g.rules
