use Rattle.std.proofs.Common.{subst}
use Rattle.ipg_lin.specs.Formula.{width}
use Rattle.ipg_solve.specs.Crossed.{IsCrossed}
use Rattle.ipg_solve.proofs.Crossing.{crossed_checks, crossed_short}
use Rattle.ipg_solve.proofs.decision.decided.Goals as goal

pub returns-in-Some-clause-decided : goal.returns-in-Some-clause-decided
returns-in-Some-clause-decided c =
    crossed_checks c.ends_combine.ensures c.args.f.now c.args.b.now c.in-Some.x c.in_ok-crossing.field-0
    (subst (λ bounds. IsCrossed bounds c.in-Some.x) c.as_slice.ensures c.in-Some.ensures) c.in_ok-crossing.ensures

pub returns-in-Some-clause-short : goal.returns-in-Some-clause-short
returns-in-Some-clause-short c = λ difference few. crossed_short (width c.args.f.now) c.in-Some.x c.in_ok-crossing.field-0 c.in_ok-crossing.ensures
