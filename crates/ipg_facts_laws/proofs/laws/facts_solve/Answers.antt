use Rattle.ipg_facts_laws.proofs.Numbering as numbering
use Rattle.ipg_facts_laws.proofs.laws.facts_solve.Goals as goal

pub returns : goal.returns
returns c = numbering.facts_solve
