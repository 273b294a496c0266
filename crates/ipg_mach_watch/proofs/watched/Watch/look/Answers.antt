use Rattle.std.proofs.Common.{sym, subst}
use Rattle.std.specs.Prelude.{OnOk}
use Rattle.ipg_mach_moves.specs.Moves.{Highest}
use Rattle.ipg_mach_failures.specs.Furthest as spec
use Rattle.ipg_mach_watch.specs.Told.{IsFurthest}
use Rattle.ipg_mach_watch.proofs.Showing as showing
use Rattle.ipg_mach_watch.proofs.watched.Watch.look.Goals as goal

pub returns-in-Some-clause-furthest : goal.returns-in-Some-clause-furthest
returns-in-Some-clause-furthest g c src e f at calls is =
    let it = showing.works_in src c.in-Some.scene e.highest (c.in-Some.ensures src e at) in
    subst (λ cs. OnOk c.see.result (IsFurthest c.see.new.self.furthest
    (spec.furthest_with f (spec.story_with cs (spec.highest_reads e.highest) (spec.highest_fails e.highest))))) calls
    (subst (λ (h : Highest). OnOk c.see.result (IsFurthest c.see.new.self.furthest
    (spec.furthest_with f (spec.story_with c.args.self.now.calls.items (spec.highest_reads h) (spec.highest_fails h))))) (sym it.is)
    (c.see.ensures.furthest src it.call f it.scene is))
