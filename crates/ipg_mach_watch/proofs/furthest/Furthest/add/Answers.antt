use Rattle.std.proofs.Common.{sym, ap, ◌∙◌, subst}
use Rattle.std.specs.Prelude.{OnOk}
use Rattle.ipg_mach_failures.specs.Furthest as spec
use Rattle.ipg_mach_failures.specs.Values.{values_of}
use Rattle.ipg_mach_failures.specs.Chain.{story}
use Rattle.ipg_mach_watch.specs.Told.{IsFurthest, told_place}
use Rattle.ipg_mach_watch.proofs.Keeping as keeping
use Rattle.ipg_mach_watch.proofs.furthest.Furthest.add.Goals as goal

pub returns-in-Some : goal.returns-in-Some
returns-in-Some g c src call f q is =
    let one = story c.args.calls.now (values_of call c.args.failure) c.args.failure in
    let place = sym c.in-Some.is ∙ c.place_of.ensures ∙ ap told_place (c.as_slice.ensures.value ∙ is.told) in
    subst (λ (k : spec.Furthest). OnOk c.further.result (IsFurthest c.further.new.self k))
    (sym (keeping.after_some f one f.told c.in-Some.place place)) (c.further.ensures src call f q is)

pub returns-in-None : goal.returns-in-None
returns-in-None g c src call f q is =
    let one = story c.args.calls.now (values_of call c.args.failure) c.args.failure in
    let place = sym c.in-None.is ∙ c.place_of.ensures ∙ ap told_place (c.as_slice.ensures.value ∙ is.told) in
    subst (λ (k : spec.Furthest). OnOk c.only.result (IsFurthest c.only.new.self k))
    (sym (keeping.after_none f one f.told place)) (c.only.ensures src call q)
