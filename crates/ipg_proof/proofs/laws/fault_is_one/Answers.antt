use Rattle.ipg_proof.proofs.Once as once
use Rattle.ipg_proof.proofs.laws.fault_is_one.Goals as goal

pub returns : goal.returns
returns c = once.fault_is_one c.one_limit.ensures
