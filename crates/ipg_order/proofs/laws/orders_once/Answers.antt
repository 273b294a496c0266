use Rattle.ipg_order.proofs.Once as once
use Rattle.ipg_order.proofs.laws.orders_once.Goals as goal

pub returns : goal.returns
returns c = once.orders_once
