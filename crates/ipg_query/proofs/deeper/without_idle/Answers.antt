use Rattle.ipg_query.proofs.Coming.{idle_left}
use Rattle.ipg_query.proofs.deeper.without_idle.Goals as goal

pub returns-then-is_alone : goal.returns-then-is_alone
returns-then-is_alone g c src grammar more xs comes =
    let spot = c.args.next.spot in
    idle_left src c.args.p.now.parse.store grammar spot c.args.next.steps.now c.behind_all.result.now more
    (λ x is. c.behind_all.ensures grammar x (c.is_alone.ensures src spot.at x.at x.child is.stands c.if-is_alone.true)) xs comes
