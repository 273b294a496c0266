use Rattle.std.proofs.Common.{vec_len}
use Rattle.ipg_solve.proofs.Backing.{Backing}
use Rattle.ipg_solve.proofs.halving.back.Given as goal

-- the cuts taken off left nothing waiting
abbrev pub invariant-loop-cut : goal.invariant-loop-cut
invariant-loop-cut g l = Backing l.first g.start l.domains.items l.fn.cuts.items l.cuts.items

abbrev pub decreases-loop-cut : goal.decreases-loop-cut
decreases-loop-cut g l = vec_len l.cuts
