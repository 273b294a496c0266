use Rattle.std.proofs.Common.{refl}
use Rattle.ipg_app_tree.proofs.answering.put_picked_view.Goals as goal

pub returns-in-Ok : goal.returns-in-Ok
returns-in-Ok g c src grammar one h =
    let put = rw c.in-Ok.is at (c.in_ok-put.ensures.picked src grammar one h) in
    (refl, put)

pub returns-in-Err : goal.returns-in-Err
returns-in-Err g c src grammar one h =
    let put = rw c.in-Err.is at (c.in_ok-put.ensures.picked src grammar one h) in
    put
