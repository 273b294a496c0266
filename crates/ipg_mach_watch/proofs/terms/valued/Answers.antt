use Rattle.std.proofs.Common.{refl, None}
use Rattle.ipg_mach_watch.proofs.Steps as steps
use Rattle.ipg_mach_watch.proofs.terms.valued.Goals as goal

pub returns-in-Val-clause-fails : goal.returns-in-Val-clause-fails
returns-in-Val-clause-fails g c f state e stands holds =
    steps.by_value f state None e 0 _ _ _ _ (c.in-Val.ensures.value f state None e stands holds) refl refl

pub returns-in-Fail-clause-fails : goal.returns-in-Fail-clause-fails
returns-in-Fail-clause-fails g c f state e stands holds =
    steps.by_fail f state None e 0 _ _ (c.in-Fail.ensures.value f state None e stands holds) c.no_value.ensures

pub returns-in-Range-clause-fails : goal.returns-in-Range-clause-fails
returns-in-Range-clause-fails g c f state e stands holds =
    steps.by_range f state None e 0 _ _ (c.in-Range.ensures.value f state None e stands holds) refl
