use Rattle.std.proofs.Common.{◌≡◌, take}
use Rattle.ipg_order.specs.Reading.{holders_of}
use Rattle.ipg_order.proofs.waits.holders.Given as goal

abbrev pub invariant-loop-rule : goal.invariant-loop-rule
invariant-loop-rule l = l.holders.items ≡ holders_of (take l.rule-index l.rules)
