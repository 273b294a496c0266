use Rattle.ipg_facts_laws.proofs.Nesting as nesting
use Rattle.ipg_facts_laws.proofs.ending.runs_agree.Goals as goal

pub returns : goal.returns
returns c = nesting.runs_agree c.heights_agree.ensures
