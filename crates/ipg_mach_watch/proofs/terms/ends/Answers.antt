use Rattle.std.proofs.Common.{w64, refl, length, None}
use Rattle.std.proofs.lemmas.Int.{to_z-of_z}
use Rattle.ipg_core.specs.Part.{interval}
use Rattle.ipg_core.specs.Eval.{eval}
use Rattle.ipg_core.specs.Meaning.{environment}
use Rattle.ipg_mach_failures.specs.Failing.{on_value, on_interval}
use Rattle.ipg_mach_watch.proofs.Steps as steps
use Rattle.ipg_mach_watch.proofs.terms.ends.Goals as goal

pub returns-in-Val-clause-fails : goal.returns-in-Val-clause-fails
returns-in-Val-clause-fails g c f state slot stands holds is_part =
    steps.by_value f state None slot.from 0
    (λ l. on_value 0 (eval slot.to (environment f state None)) (λ r. on_interval 0 l r (interval (length f.bytes) l r) (λ x y. None)))
    c.ends_from.result c.in-Val.from _ (c.in-Val.ensures.value f state None slot.from stands holds.from)
    (to_z-of_z w64 c.in-Val.from c.in-Val.ensures.sized)
    (steps.on_ends_part (eval slot.to (environment f state None)) _ _ f.bytes _ is_part (c.ends_from.ensures.fails f state slot.to stands holds.to))

pub returns-in-Fail-clause-fails : goal.returns-in-Fail-clause-fails
returns-in-Fail-clause-fails g c f state slot stands holds is_part =
    steps.by_fail f state None slot.from 0 _ _ (c.in-Fail.ensures.value f state None slot.from stands holds.from) c.no_value.ensures

pub returns-in-Range-clause-fails : goal.returns-in-Range-clause-fails
returns-in-Range-clause-fails g c f state slot stands holds is_part =
    steps.by_range f state None slot.from 0 _ _ (c.in-Range.ensures.value f state None slot.from stands holds.from) refl
