use Rattle.ipg_facts_laws.proofs.Nesting as nesting
use Rattle.ipg_facts_laws.proofs.ending.nests_within_height.Goals as goal

pub returns : goal.returns
returns c = nesting.nests_within_height c.nests_agree.ensures
