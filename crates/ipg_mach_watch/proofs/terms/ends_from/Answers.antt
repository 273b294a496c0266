use Rattle.std.proofs.Common.{w64, refl, None}
use Rattle.std.proofs.lemmas.Int.{to_z-of_z}
use Rattle.ipg_mach_watch.proofs.Steps as steps
use Rattle.ipg_mach_watch.proofs.terms.ends_from.Goals as goal

pub returns-in-Val-clause-fails : goal.returns-in-Val-clause-fails
returns-in-Val-clause-fails g c f state e stands holds =
    steps.by_value f state None e 0 _ _ c.in-Val.to _ (c.in-Val.ensures.value f state None e stands holds)
    refl (steps.seen 0 _ _ _ c.args.from _ c.in-Val.to _ (to_z-of_z w64 c.args.from c.ranges.from)
    (to_z-of_z w64 c.in-Val.to c.in-Val.ensures.sized) c.ends_between.ensures)

pub returns-in-Fail-clause-fails : goal.returns-in-Fail-clause-fails
returns-in-Fail-clause-fails g c f state e stands holds =
    steps.by_fail f state None e 0 _ _ (c.in-Fail.ensures.value f state None e stands holds) c.no_value.ensures

pub returns-in-Range-clause-fails : goal.returns-in-Range-clause-fails
returns-in-Range-clause-fails g c f state e stands holds =
    steps.by_range f state None e 0 _ _ (c.in-Range.ensures.value f state None e stands holds) refl
