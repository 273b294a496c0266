use Rattle.ipg_proof.proofs.Once as once
use Rattle.ipg_proof.proofs.laws.proves_is_no_fault.Goals as goal

pub returns : goal.returns
returns c = once.proves_is_no_fault c.one_limit.ensures
