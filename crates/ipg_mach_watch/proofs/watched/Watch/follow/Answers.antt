use Rattle.std.proofs.Common.{sym, ap, ◌∙◌, arith, take, ◌-◌}
use Rattle.ipg_mach_watch.proofs.Following as following
use Rattle.ipg_mach_watch.proofs.watched.Watch.follow.Goals as goal

pub returns-in_ok-push-clause-calls : goal.returns-in_ok-push-clause-calls
returns-in_ok-push-clause-calls g c e last is works before after =
    c.in_ok-push.ensures.items
    ∙ following.pushed e last c.args.before c.args.after before after c.args.self.now.calls.items is c.if-before-after.true c.in-Some.call
    (sym c.in-Some.is ∙ works)

pub returns-in_default-clause-calls : goal.returns-in_default-clause-calls
returns-in_default-clause-calls g c e last is works before after =
    absurd (following.some_pushed e last c.args.before c.args.after before after c.args.self.now.calls.items is c.if-before-after.true
    (sym c.in_default.is ∙ works))

pub returns-then-after-before-clause-calls : goal.returns-then-after-before-clause-calls
returns-then-after-before-clause-calls g c e last is works before after =
    c.pop.ensures.rest
    ∙ ap (λ n. take (n - 1) c.args.self.now.calls.items) c.args.self.now.calls.ok.0
    ∙ following.popped e last c.args.before c.args.after before after c.args.self.now.calls.items is c.if-after-before.true

pub returns-else-after-before-clause-calls : goal.returns-else-after-before-clause-calls
returns-else-after-before-clause-calls g c e last is works before after =
    following.kept e last c.args.before c.args.after before after c.args.self.now.calls.items is
    (omega (arith, c.if-before-after.false, c.if-after-before.false))
