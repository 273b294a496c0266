use Rattle.ipg_proof.proofs.Worth as worth
use Rattle.ipg_proof.proofs.laws.accepts_is_total.Goals as goal

pub returns : goal.returns
returns c = worth.accepts_is_total c.ends_where_none_solve.ensures
