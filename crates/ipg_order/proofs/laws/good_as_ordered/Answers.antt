use Rattle.ipg_order.proofs.Formed as formed
use Rattle.ipg_order.proofs.laws.good_as_ordered.Goals as goal

pub returns : goal.returns
returns c = formed.good_as_ordered
