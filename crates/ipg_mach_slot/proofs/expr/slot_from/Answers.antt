use Rattle.std.proofs.Common.{w64}
use Rattle.std.proofs.lemmas.Int.{to_z-of_z}
use Rattle.ipg_mach_slot.proofs.Slots as slots
use Rattle.ipg_mach_slot.proofs.expr.slot_from.Goals as goal

pub returns-in-Val-clause-found : goal.returns-in-Val-clause-found
returns-in-Val-clause-found g c src st at f place state item slot stands holds shares =
    slots.from_value src st at f place state item slot c.args.from c.in-Val.to c.slot_between.result
    (c.in-Val.ensures.value f state item slot.to stands holds.to)
    (slots.between_same src st at f place state slot c.args.from _ c.in-Val.to _ c.slot_between.result
    (to_z-of_z w64 c.args.from c.ranges.from) (to_z-of_z w64 c.in-Val.to c.in-Val.ensures.sized)
    (c.slot_between.ensures src st at f place state slot holds.sym shares))

pub returns-in-Fail-clause-found : goal.returns-in-Fail-clause-found
returns-in-Fail-clause-found g c src st at f place state item slot stands holds shares =
    slots.from_fail src st at f place state item slot c.args.from (c.in-Fail.ensures.value f state item slot.to stands holds.to)

pub returns-in-Range-clause-found : goal.returns-in-Range-clause-found
returns-in-Range-clause-found g c src st at f place state item slot stands holds shares =
    slots.from_range src st at f place state item slot c.args.from (c.in-Range.ensures.value f state item slot.to stands holds.to)
