use Rattle.std.proofs.Common.{◌≤◌}
use Rattle.ipg_read_tokens.proofs.room.room_of.Given as goal

abbrev pub invariant-loop-i : goal.invariant-loop-i
invariant-loop-i l = l.count ≤ l.i
