use Rattle.std.proofs.Common.{[], refl}
use Rattle.ipg_mach_failures.specs.Chain.{story}
use Rattle.ipg_mach_failures.specs.Values.{values_of}
use Rattle.ipg_mach_watch.proofs.Keeping as keeping
use Rattle.ipg_mach_watch.proofs.furthest.Furthest.only.Goals as goal

pub returns : goal.returns
returns g c src call q =
    let one = story c.args.calls.now (values_of call c.args.failure) c.args.failure in
    let told = keeping.pushed c.push.new.self.items c.clear.new.self.items [] c.story_in.result one c.in_ok-push.ensures.items c.clear.ensures.items
    (c.story_in.ensures src call q) in
    record { told = told; more = refl }
