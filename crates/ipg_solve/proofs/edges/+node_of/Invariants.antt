use Rattle.std.proofs.Common.{length}
use Rattle.ipg_solve.proofs.edges.+node_of.Given as goal

abbrev pub decreases-node_of : goal.decreases-node_of
decreases-node_of l = length l.terms.now
