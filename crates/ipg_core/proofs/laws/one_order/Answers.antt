use Rattle.ipg_core.proofs.Orders as orders
use Rattle.ipg_core.proofs.laws.one_order.Goals as goal

pub returns : goal.returns
returns c = orders.one_order
