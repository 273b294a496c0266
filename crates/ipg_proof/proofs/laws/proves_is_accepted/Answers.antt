use Rattle.ipg_proof.proofs.Worth as worth
use Rattle.ipg_proof.proofs.laws.proves_is_accepted.Goals as goal

pub returns : goal.returns
returns c = worth.proves_is_accepted c.loops_are_live.ensures c.runs_are_whole.ensures c.checks_refute.ensures
