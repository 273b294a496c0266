use Rattle.std.proofs.Common.{sym, ap, ◌∙◌}
use Rattle.ipg_mach.specs.Calls.{items_in}
use Rattle.ipg_mach_failures.specs.Failing.{failure_at}
use Rattle.ipg_mach_watch.proofs.Showing as showing
use Rattle.ipg_mach_watch.proofs.scenes.failure_in.Goals as goal

pub returns-in_ok-failure-in-Some-clause-fails : goal.returns-in_ok-failure-in-Some-clause-fails
returns-in_ok-failure-in-Some-clause-fails g c src call q =
    let s = c.args.scene.now in
    let found = c.term.ensures.fails call.frame call.state q.number (items_in call.entry) call.entry q.term q.stands q.holds q.entry q.bytes in
    c.in_ok-failure-in-Some.ensures src call q ∙ ap (failure_at call s.instr.term) (sym c.in-Some.is)
    ∙ showing.fails_by src s call q c.term.result found

pub returns-in-None-clause-fails : goal.returns-in-None-clause-fails
returns-in-None-clause-fails g c src call q =
    let s = c.args.scene.now in
    let found = c.term.ensures.fails call.frame call.state q.number (items_in call.entry) call.entry q.term q.stands q.holds q.entry q.bytes in
    ap (failure_at call s.instr.term) (sym c.in-None.is) ∙ showing.fails_by src s call q c.term.result found
