use Rattle.ipg_facts_laws.proofs.Nesting as nesting
use Rattle.ipg_facts_laws.proofs.ending.nests_agree.Goals as goal

pub returns : goal.returns
returns c = nesting.nests_agree c.runs_agree.ensures
