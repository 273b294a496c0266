use Rattle.ipg_proof.proofs.Wider as wider
use Rattle.ipg_proof.proofs.laws.accepted_stays.Goals as goal

pub returns : goal.returns
returns c = wider.accepted_stays c.joints_solve_before.ensures
