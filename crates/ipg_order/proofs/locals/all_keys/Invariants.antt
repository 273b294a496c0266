use Rattle.std.proofs.Common.{◌≡◌, ◌++◌, drop}
use Rattle.ipg_order.specs.Locals as spec
use Rattle.ipg_order.proofs.locals.all_keys.Given as goal

-- those so far and those of what is left are all
abbrev pub invariant-loop-number : goal.invariant-loop-number
invariant-loop-number l = l.keys.items ++ spec.numbered l.number (spec.rule_keys l.rules) (drop l.number l.rules) ≡ spec.all_keys l.rules
