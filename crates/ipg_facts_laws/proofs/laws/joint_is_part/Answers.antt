use Rattle.ipg_facts_laws.proofs.Bounded as bounded
use Rattle.ipg_facts_laws.proofs.laws.joint_is_part.Goals as goal

pub returns : goal.returns
returns c = bounded.joint_is_part
