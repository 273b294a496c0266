use Rattle.std.proofs.Common.{refl}
use Rattle.ipg_app_tree.proofs.answering.put_picked.Goals as goal

pub returns-in-Ok : goal.returns-in-Ok
returns-in-Ok g c src grammar one h =
    let put = rw c.deref.ensures.value at c.in-Ok.ensures in
    (refl, put _ (c.in_ok-hits.ensures src grammar one h))

pub returns : goal.returns
returns g c src grammar one h =
    let put = rw c.deref.ensures.value at c.in-Err.ensures in
    put _ (c.in_ok-hits.ensures src grammar one h)
