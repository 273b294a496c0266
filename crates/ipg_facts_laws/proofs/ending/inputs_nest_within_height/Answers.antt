use Rattle.ipg_facts_laws.proofs.Nesting as nesting
use Rattle.ipg_facts_laws.proofs.ending.inputs_nest_within_height.Goals as goal

pub returns : goal.returns
returns c = nesting.inputs_nest_within_height c.nests_within_height.ensures
