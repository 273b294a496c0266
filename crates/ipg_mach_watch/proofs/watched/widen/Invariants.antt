use Rattle.std.proofs.Common.{◌+◌, ◌≤◌, length}
use Rattle.ipg_mach_watch.proofs.watched.widen.Given as goal

-- as many as are lacking are wanted yet
abbrev pub invariant-loop-lacking : goal.invariant-loop-lacking
invariant-loop-lacking g l = l.depth ≤ length l.numbers.items + l.lacking

abbrev pub decreases-loop-lacking : goal.decreases-loop-lacking
decreases-loop-lacking g l = l.lacking
