use Rattle.std.proofs.Common.{sym, subst}
use Rattle.ipg_mach.specs.Calls.{shown, Awaits}
use Rattle.ipg_mach.proofs.Waiting as waiting
use Rattle.ipg_mach.proofs.top.Top.resume.Goals as goal

pub returns-clause-working : goal.returns-clause-working
returns-clause-working g c src lower call key answer holds =
    let wait = holds.wait in
    let popped = c.pop_into.ensures.some wait.1 wait.0 wait.2 in
    waiting.resumed c.before_before.ensures c.grows_from_before.ensures c.items_stay.ensures c.results_stay.ensures c.args.tables.now src
    (shown c.args.self.now) lower call key answer _ holds c.pop_into.new.place c.pop_into.new.self.items popped.0 popped.1

pub returns-clause-awaits : goal.returns-clause-awaits
returns-clause-awaits g c src lower call key answer holds =
    let wait = holds.wait in
    let frame = c.args.self.now.frame in
    subst (λ caller. Awaits caller call frame.from frame.to) (sym (c.pop_into.ensures.some wait.1 wait.0 wait.2).1) wait.3.awaits
