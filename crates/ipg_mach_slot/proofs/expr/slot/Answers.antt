use Rattle.std.proofs.Common.{w64, subst}
use Rattle.std.proofs.lemmas.Int.{to_z-of_z}
use Rattle.ipg_mach_slot.specs.Found as found
use Rattle.ipg_mach_slot.specs.Found.{IsFound}
use Rattle.ipg_mach_slot.proofs.Slots as slots
use Rattle.ipg_mach_slot.proofs.expr.slot.Goals as goal

pub returns-in-Val-clause-found : goal.returns-in-Val-clause-found
returns-in-Val-clause-found g c src st at f place state item slot stands holds shares =
    slots.on_value src st at f place state item slot c.in-Val.from c.slot_from.result
    (c.in-Val.ensures.value f state item slot.from stands holds.from)
    (subst (λ x. IsFound src st at f state.own c.slot_from.result (found.slot_from f place state item slot x))
    (to_z-of_z w64 c.in-Val.from c.in-Val.ensures.sized)
    (c.slot_from.ensures.found src st at f place state item slot stands holds shares))

pub returns-in-Fail-clause-found : goal.returns-in-Fail-clause-found
returns-in-Fail-clause-found g c src st at f place state item slot stands holds shares =
    slots.on_fail src st at f place state item slot (c.in-Fail.ensures.value f state item slot.from stands holds.from)

pub returns-in-Range-clause-found : goal.returns-in-Range-clause-found
returns-in-Range-clause-found g c src st at f place state item slot stands holds shares =
    slots.on_range src st at f place state item slot (c.in-Range.ensures.value f state item slot.from stands holds.from)
