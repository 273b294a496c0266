use Rattle.std.proofs.Common.{refl, sym, ap, ◌∙◌, arith}
use Rattle.std.proofs.lemmas.List.{drop_all}
use Rattle.ipg_mach_failures.specs.Furthest as spec
use Rattle.ipg_mach_watch.proofs.Telling as telling
use Rattle.ipg_mach_watch.proofs.furthest.is_told.Goals as goal

pub loop-one-init : goal.loop-one-init
loop-one-init c = refl

pub returns-then-alike : goal.returns-then-alike
returns-then-alike c =
    let here = c.loop-one in
    sym (telling.is_one c.args.told.now here.one-index c.args.failure.now c.one-item.result c.one-item.is c.loop-one-test.true here.invariant
    (sym c.alike.ensures ∙ c.if-alike.true))

pub loop-one-preserved : goal.loop-one-preserved
loop-one-preserved c =
    let here = c.loop-one in
    telling.is_later c.args.told.now here.one-index c.args.failure.now c.one-item.result c.one-item.is c.loop-one-test.true here.invariant
    (sym c.alike.ensures ∙ c.if-alike.false)

pub returns : goal.returns
returns c =
    let told = c.args.told.now in
    let here = c.loop-one in
    sym (here.invariant ∙ ap (λ l. spec.is_told l c.args.failure.now) (drop_all here.one-index told (omega (arith, c.loop-one-test.false))))
