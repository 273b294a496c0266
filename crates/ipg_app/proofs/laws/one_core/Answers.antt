use Rattle.ipg_app.proofs.OneCore as once
use Rattle.ipg_app.proofs.laws.one_core.Goals as goal

pub returns : goal.returns
returns c = once.one_core c.one_limit.ensures c.orders_once.ensures c.good_is_not_stuck.ensures c.stuck_once.ensures
