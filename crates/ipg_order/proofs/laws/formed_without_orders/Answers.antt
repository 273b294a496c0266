use Rattle.ipg_order.proofs.Formed as formed
use Rattle.ipg_order.proofs.laws.formed_without_orders.Goals as goal

pub returns : goal.returns
returns c = formed.formed_without_orders
