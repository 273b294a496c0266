use Rattle.ipg_facts_laws.proofs.Solved as solved
use Rattle.ipg_facts_laws.proofs.laws.reached_edges_solve.Goals as goal

pub returns : goal.returns
returns c = solved.reached_edges_solve c.lies_within.ensures c.touching_touches.ensures
