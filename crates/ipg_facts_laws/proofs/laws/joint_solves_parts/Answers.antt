use Rattle.ipg_facts_laws.proofs.Parted as parted
use Rattle.ipg_facts_laws.proofs.laws.joint_solves_parts.Goals as goal

pub returns : goal.returns
returns c = parted.joint_solves_parts
