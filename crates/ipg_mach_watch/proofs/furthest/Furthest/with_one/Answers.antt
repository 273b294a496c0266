use Rattle.std.proofs.Common.{◌<◌, sym, ap, ◌∙◌, length, subst, arith}
use Rattle.ipg_mach_failures.specs.Chain.{story}
use Rattle.ipg_mach_failures.specs.Furthest as spec
use Rattle.ipg_mach_failures.specs.Values.{values_of}
use Rattle.ipg_mach_watch.specs.Told.{IsFurthest}
use Rattle.ipg_mach_watch.proofs.Keeping as keeping
use Rattle.ipg_mach_watch.proofs.furthest.Furthest.with_one.Goals as goal

pub returns-then-len-lt-FEW : goal.returns-then-len-lt-FEW
returns-then-len-lt-FEW g c src call f q is =
    let failure = c.args.failure in
    let one = story c.args.calls.now (values_of call failure) failure in
    let new = ap (λ l. spec.is_told l failure) (sym (c.as_slice.ensures.value ∙ is.told)) ∙ sym c.is_told.ensures ∙ c.if-is_told.false in
    let few : length f.told < 8 = (let n = c.len.ensures in let ok = c.args.self.now.told.ok.0 in let same = ap length is.told in
    omega (arith, c.if-len-lt-FEW.true, n, ok, same)) in
    let told = keeping.pushed c.push.new.self.items c.args.self.now.told.items f.told c.story_in.result one c.in_ok-push.ensures.items is.told
    (c.story_in.ensures src call q) in
    subst (λ (k : spec.Furthest). IsFurthest {A = g.row.A.Denot} (record { told = c.push.new.self; more = c.args.self.now.more }) k)
    (sym (keeping.appended f one new few)) (record { told = told; more = is.more })
