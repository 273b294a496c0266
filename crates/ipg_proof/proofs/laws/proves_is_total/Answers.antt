use Rattle.ipg_proof.proofs.Worth as worth
use Rattle.ipg_proof.proofs.laws.proves_is_total.Goals as goal

pub returns : goal.returns
returns c = worth.proves_is_total c.accepts_is_total.ensures c.proves_is_accepted.ensures
