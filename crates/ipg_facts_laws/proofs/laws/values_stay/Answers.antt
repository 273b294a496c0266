use Rattle.ipg_facts_laws.proofs.Grows as grows
use Rattle.ipg_facts_laws.proofs.laws.values_stay.Goals as goal

pub returns : goal.returns
returns c = grows.values_stay
