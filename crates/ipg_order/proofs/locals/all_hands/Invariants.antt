use Rattle.std.proofs.Common.{◌≡◌, ◌++◌, drop}
use Rattle.ipg_order.specs.Locals as spec
use Rattle.ipg_order.proofs.locals.all_hands.Given as goal

-- those so far and those of what is left are all
abbrev pub invariant-loop-number : goal.invariant-loop-number
invariant-loop-number l = l.hands.items ++ spec.numbered l.number (spec.rule_hands l.rules) (drop l.number l.rules) ≡ spec.all_hands l.rules
