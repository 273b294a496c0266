use Rattle.std.proofs.Common.{sym, subst}
use Rattle.std.specs.Prelude.{OnOk}
use Rattle.ipg_mach_failures.specs.Furthest as spec
use Rattle.ipg_mach_failures.specs.Values.{values_of}
use Rattle.ipg_mach_failures.specs.Chain.{story}
use Rattle.ipg_mach_watch.specs.Told.{IsFurthest}
use Rattle.ipg_mach_watch.proofs.Keeping as keeping
use Rattle.ipg_mach_watch.proofs.furthest.Furthest.further.Goals as goal

pub returns-then-place-failure : goal.returns-then-place-failure
returns-then-place-failure g c src call f q is =
    let one = story c.args.calls.now (values_of call c.args.failure) c.args.failure in
    subst (λ (k : spec.Furthest). OnOk c.only.result (IsFurthest c.only.new.self k))
    (sym (keeping.farther f one c.args.place c.if-failure-place.false c.if-place-failure.true)) (c.only.ensures src call q)

pub returns : goal.returns
returns g c src call f q is =
    let one = story c.args.calls.now (values_of call c.args.failure) c.args.failure in
    subst (λ (k : spec.Furthest). OnOk c.with_one.result (IsFurthest c.with_one.new.self k))
    (sym (keeping.there f one c.args.place c.if-failure-place.false c.if-place-failure.false)) (c.with_one.ensures src call f q is)
