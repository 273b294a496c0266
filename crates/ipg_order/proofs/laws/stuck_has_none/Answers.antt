use Rattle.ipg_order.proofs.Stuck as stuck
use Rattle.ipg_order.proofs.laws.stuck_has_none.Goals as goal

pub returns : goal.returns
returns c = stuck.stuck_has_none
