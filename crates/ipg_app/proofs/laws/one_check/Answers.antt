use Rattle.ipg_app.proofs.OneCheck as once
use Rattle.ipg_app.proofs.laws.one_check.Goals as goal

pub returns : goal.returns
returns c = once.one_check c.loops_arent_accepted.ensures c.one_loops.ensures
