use Rattle.std.proofs.Common.{w64, refl, length}
use Rattle.std.proofs.lemmas.Int.{to_z-of_z}
use Rattle.ipg_core.specs.Part.{interval}
use Rattle.ipg_core.specs.Eval.{eval}
use Rattle.ipg_core.specs.Meaning.{environment}
use Rattle.ipg_mach_failures.specs.Failing.{on_value, on_interval, symbol_fails}
use Rattle.ipg_mach_watch.proofs.Steps as steps
use Rattle.ipg_mach_watch.proofs.terms.slot.Goals as goal

pub returns-in-Val-clause-fails : goal.returns-in-Val-clause-fails
returns-in-Val-clause-fails g c f state item slot stands holds is_part =
    steps.by_value f state item slot.from c.args.branch
    (λ l. on_value c.args.branch (eval slot.to (environment f state item)) (λ r. on_interval c.args.branch l r (interval (length f.bytes) l r)
    (λ x y. symbol_fails c.args.branch f.bytes x y slot.sym))) c.slot_from.result c.in-Val.from _
    (c.in-Val.ensures.value f state item slot.from stands holds.from)
    (to_z-of_z w64 c.in-Val.from c.in-Val.ensures.sized)
    (steps.on_part c.args.branch (eval slot.to (environment f state item)) _ slot.sym _ f.bytes _ is_part
    (c.slot_from.ensures.fails f state item slot stands holds))

pub returns-in-Fail-clause-fails : goal.returns-in-Fail-clause-fails
returns-in-Fail-clause-fails g c f state item slot stands holds is_part =
    steps.by_fail f state item slot.from c.args.branch _ _ (c.in-Fail.ensures.value f state item slot.from stands holds.from) c.no_value.ensures

pub returns-in-Range-clause-fails : goal.returns-in-Range-clause-fails
returns-in-Range-clause-fails g c f state item slot stands holds is_part =
    steps.by_range f state item slot.from c.args.branch _ _ (c.in-Range.ensures.value f state item slot.from stands holds.from) refl
