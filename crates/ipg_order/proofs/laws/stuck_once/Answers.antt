use Rattle.ipg_order.proofs.Once as once
use Rattle.ipg_order.proofs.laws.stuck_once.Goals as goal

pub returns : goal.returns
returns c = once.stuck_once
