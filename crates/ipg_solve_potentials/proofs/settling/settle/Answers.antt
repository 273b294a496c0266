use Rattle.ipg_solve_potentials.proofs.Circles.{is_exact}
use Rattle.ipg_solve_potentials.proofs.settling.settle.Goals as goal

pub returns-clause-exact : goal.returns-clause-exact
returns-clause-exact c = is_exact c.args.nodes c.args.edges.now c.in_ok-settled.settled c.in_ok-settled.ensures
