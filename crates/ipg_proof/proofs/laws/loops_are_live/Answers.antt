use Rattle.ipg_proof.proofs.Alive as alive
use Rattle.ipg_proof.proofs.laws.loops_are_live.Goals as goal

pub returns : goal.returns
returns c = alive.loops_are_live c.checks_refute.ensures c.conditions_are_parts.ensures c.joint_solves_parts.ensures
