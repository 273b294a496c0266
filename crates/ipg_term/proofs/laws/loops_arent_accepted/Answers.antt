use Rattle.ipg_term.proofs.Whole as whole
use Rattle.ipg_term.proofs.laws.loops_arent_accepted.Goals as goal

pub returns : goal.returns
returns c = whole.loops_arent_accepted c.one_limit.ensures
