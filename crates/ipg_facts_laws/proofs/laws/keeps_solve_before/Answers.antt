use Rattle.ipg_facts_laws.proofs.Solutions as solutions
use Rattle.ipg_facts_laws.proofs.laws.keeps_solve_before.Goals as goal

pub returns : goal.returns
returns c = solutions.keeps_solve_before
