use Rattle.std.proofs.Common.{◌≡◌, ◌+◌, ◌≤◌, ◌++◌, drop, length}
use Rattle.std.specs.Prelude.{vec_len, vec_capacity}
use Rattle.ipg_mach_node.specs.Kept.{rows_done}
use Rattle.ipg_mach_node.proofs.scratch.put_kids.Given as goal

-- so far, and what is left, which has room
abbrev pub invariant-loop-result : goal.invariant-loop-result
invariant-loop-result g l =
    (l.kids.items ++ rows_done (drop l.result-index l.done) ≡ rows_done l.done)
    × (vec_len l.kids + length (drop l.result-index l.done) ≤ vec_capacity l.kids)
