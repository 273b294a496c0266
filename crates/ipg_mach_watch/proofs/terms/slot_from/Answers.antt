use Rattle.std.proofs.Common.{w64, refl}
use Rattle.std.proofs.lemmas.Int.{to_z-of_z}
use Rattle.ipg_mach_watch.proofs.Steps as steps
use Rattle.ipg_mach_watch.proofs.terms.slot_from.Goals as goal

pub returns-in-Val-clause-fails : goal.returns-in-Val-clause-fails
returns-in-Val-clause-fails g c f state item slot stands holds =
    steps.by_value f state item slot.to c.args.branch _ _ c.in-Val.to _ (c.in-Val.ensures.value f state item slot.to stands holds.to)
    refl (steps.seen c.args.branch _ _ _ c.args.from _ c.in-Val.to _ (to_z-of_z w64 c.args.from c.ranges.from)
    (to_z-of_z w64 c.in-Val.to c.in-Val.ensures.sized) (c.slot_between.ensures slot holds.sym))

pub returns-in-Fail-clause-fails : goal.returns-in-Fail-clause-fails
returns-in-Fail-clause-fails g c f state item slot stands holds =
    steps.by_fail f state item slot.to c.args.branch _ _ (c.in-Fail.ensures.value f state item slot.to stands holds.to) c.no_value.ensures

pub returns-in-Range-clause-fails : goal.returns-in-Range-clause-fails
returns-in-Range-clause-fails g c f state item slot stands holds =
    steps.by_range f state item slot.to c.args.branch _ _ (c.in-Range.ensures.value f state item slot.to stands holds.to) refl
