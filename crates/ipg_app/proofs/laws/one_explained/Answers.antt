use Rattle.ipg_app.proofs.OneReason.{explains_same}
use Rattle.ipg_app.proofs.laws.one_explained.Goals as goal

pub returns : goal.returns
returns c =
    explains_same c.one_limit.ensures c.orders_once.ensures c.good_is_not_stuck.ensures c.stuck_once.ensures c.loops_arent_accepted.ensures
    c.one_loops.ensures c.noted_once.ensures
