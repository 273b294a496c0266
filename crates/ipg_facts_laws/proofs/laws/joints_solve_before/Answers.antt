use Rattle.ipg_facts_laws.proofs.Solutions as solutions
use Rattle.ipg_facts_laws.proofs.laws.joints_solve_before.Goals as goal

pub returns : goal.returns
returns c = solutions.joints_solve_before
