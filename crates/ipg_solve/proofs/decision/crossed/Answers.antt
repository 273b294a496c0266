use Rattle.std.proofs.Common.{sym, ◌∙◌, arith}
use Rattle.ipg_solve.proofs.Crossing.{full_start, cross_here}
use Rattle.ipg_solve.proofs.decision.crossed.Goals as goal

pub returns-then-is_crossed : goal.returns-then-is_crossed
returns-then-is_crossed c = cross_here c.args.bounds.now c.loop-x.x c.loop-x-test.true (sym c.is_crossed.ensures ∙ c.if-is_crossed.true)

pub returns : goal.returns
returns c = full_start c.args.bounds.now (λ k within. c.loop-x.invariant k (omega (arith, within)))
