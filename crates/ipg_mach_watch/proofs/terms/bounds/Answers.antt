use Rattle.std.proofs.Common.{refl, None}
use Rattle.ipg_mach_watch.proofs.Steps as steps
use Rattle.ipg_mach_watch.proofs.terms.bounds.Goals as goal

pub returns-in-Val-clause-fails : goal.returns-in-Val-clause-fails
returns-in-Val-clause-fails g c f state a b stands first last =
    steps.by_value f state None a 0 _ _ _ _ (c.in-Val.ensures.value f state None a stands first) refl (c.valued.ensures.fails f state b stands last)

pub returns-in-Fail-clause-fails : goal.returns-in-Fail-clause-fails
returns-in-Fail-clause-fails g c f state a b stands first last =
    steps.by_fail f state None a 0 _ _ (c.in-Fail.ensures.value f state None a stands first) c.no_value.ensures

pub returns-in-Range-clause-fails : goal.returns-in-Range-clause-fails
returns-in-Range-clause-fails g c f state a b stands first last =
    steps.by_range f state None a 0 _ _ (c.in-Range.ensures.value f state None a stands first) refl
