use Rattle.ipg_facts_laws.proofs.Ran as ran
use Rattle.ipg_facts_laws.proofs.laws.own_members_are_known.Goals as goal

pub returns : goal.returns
returns c = ran.own_members_are_known
