use Rattle.ipg_solve.proofs.Ends as ends
use Rattle.ipg_solve.proofs.laws.ends_combine.Goals as goal

pub returns : goal.returns
returns c = ends.ends_combine c.sum_takes.ensures c.cancelled_is_absurd.ensures
