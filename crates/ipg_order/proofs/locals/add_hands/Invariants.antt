use Rattle.std.proofs.Common.{◌≡◌, ◌++◌, drop}
use Rattle.std.specs.Prelude.{flat_map}
use Rattle.ipg_order.specs.Locals as spec
use Rattle.ipg_order.proofs.locals.add_hands.Given as goal

-- those so far and those of what is left are all
abbrev pub invariant-loop-callee : goal.invariant-loop-callee
invariant-loop-callee l = l.hands.items ++ flat_map (spec.hands_to l.rules l.rule) (drop l.callee-index l.callees) ≡
    l.fn.hands.items ++ flat_map (spec.hands_to l.rules l.rule) l.callees
