use Rattle.ipg_facts_laws.proofs.Inside as inside
use Rattle.ipg_facts_laws.proofs.laws.edges_are_few.Goals as goal

pub returns : goal.returns
returns c = inside.edges_are_few
