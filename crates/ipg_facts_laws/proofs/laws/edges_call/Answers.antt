use Rattle.ipg_facts_laws.proofs.Calls as calls
use Rattle.ipg_facts_laws.proofs.laws.edges_call.Goals as goal

pub returns : goal.returns
returns c = calls.edges_call
