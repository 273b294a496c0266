use Rattle.ipg_term.proofs.Whole as whole
use Rattle.ipg_term.proofs.laws.one_loops.Goals as goal

pub returns : goal.returns
returns c = whole.one_loops c.one_limit.ensures
