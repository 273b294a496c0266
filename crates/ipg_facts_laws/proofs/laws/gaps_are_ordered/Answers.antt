use Rattle.ipg_facts_laws.proofs.Light as light
use Rattle.ipg_facts_laws.proofs.laws.gaps_are_ordered.Goals as goal

pub returns : goal.returns
returns c = light.gaps_are_ordered
