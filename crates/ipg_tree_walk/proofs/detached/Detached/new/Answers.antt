use Rattle.std.proofs.Common.{arith, ap}
use Rattle.ipg_tree_walk.proofs.detached.Detached.new.Goals as goal

pub invariant_of-result : goal.invariant_of-result
invariant_of-result g c node at =
    let room = ap (λ stack. stack.room) c.in_ok-stack.ensures in
    omega (arith, room, c.levels_at-room.ensures node at)
