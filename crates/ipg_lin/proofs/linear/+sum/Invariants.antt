use Rattle.std.proofs.Common.{length}
use Rattle.ipg_lin.proofs.linear.+sum.Given as goal

abbrev pub decreases-sum : goal.decreases-sum
decreases-sum l = length l.terms.now
