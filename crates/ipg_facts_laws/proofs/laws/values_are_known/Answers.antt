use Rattle.ipg_facts_laws.proofs.Relate as relate
use Rattle.ipg_facts_laws.proofs.laws.values_are_known.Goals as goal

pub returns : goal.returns
returns c = relate.values_are_known
