use Rattle.ipg_facts_laws.proofs.Cycles as cycles
use Rattle.ipg_facts_laws.proofs.laws.reached_cycles_solve.Goals as goal

pub returns : goal.returns
returns c = cycles.reached_cycles_solve c.lies_within.ensures c.touching_touches.ensures
