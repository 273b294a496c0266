use Rattle.ipg_facts_laws.proofs.Solutions as solutions
use Rattle.ipg_facts_laws.proofs.laws.solutions_hold.Goals as goal

pub returns : goal.returns
returns c = solutions.solutions_hold
