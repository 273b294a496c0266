use Rattle.ipg_facts_laws.proofs.Finished as finished
use Rattle.ipg_facts_laws.proofs.laws.finished_fit.Goals as goal

pub returns : goal.returns
returns c = finished.finished_fit c.lies_within.ensures c.touching_touches.ensures
