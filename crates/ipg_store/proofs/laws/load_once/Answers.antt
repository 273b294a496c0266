use Rattle.ipg_store.proofs.Once.{once}
use Rattle.ipg_store.proofs.laws.load_once.Goals as goal

pub returns : goal.returns
returns c file a b is_a is_b =
    once c.body_is_of_one.ensures c.orders_once.ensures c.text_is_of_one.ensures c.proves_is_no_fault.ensures c.fault_is_one.ensures file a b is_a is_b
