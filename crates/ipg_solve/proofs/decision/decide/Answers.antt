use Rattle.ipg_solve.proofs.Crossing.{is_exact}
use Rattle.ipg_solve.proofs.decision.decide.Goals as goal

pub returns-clause-exact : goal.returns-clause-exact
returns-clause-exact c = is_exact c.checks_refute.ensures c.args.f.now c.args.b.now c.in_ok-decision.decision c.in_ok-decision.ensures.decided
