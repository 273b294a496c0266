use Rattle.ipg_order.proofs.Once as once
use Rattle.ipg_order.proofs.laws.good_is_not_stuck.Goals as goal

pub returns : goal.returns
returns c = once.good_is_not_stuck
