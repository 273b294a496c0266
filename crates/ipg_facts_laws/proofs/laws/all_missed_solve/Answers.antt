use Rattle.ipg_facts_laws.proofs.Missed as missed
use Rattle.ipg_facts_laws.proofs.laws.all_missed_solve.Goals as goal

pub returns : goal.returns
returns c = missed.all_missed_solve c.lies_within.ensures c.touching_touches.ensures
