use Rattle.std.proofs.Common.{length}
use Rattle.ipg_mach_watch.proofs.Agreeing.{Agrees}
use Rattle.ipg_mach_watch.proofs.symbols.agreed.Given as goal

abbrev pub invariant-loop-want : goal.invariant-loop-want
invariant-loop-want l = Agrees l.wanted l.bytes l.left l.rest l.count

abbrev pub decreases-loop-want : goal.decreases-loop-want
decreases-loop-want l = length l.left
