use Rattle.ipg_facts_laws.proofs.Joints as joints
use Rattle.ipg_facts_laws.proofs.laws.parts_solve_joint.Goals as goal

pub returns : goal.returns
returns c = joints.parts_solve_joint
