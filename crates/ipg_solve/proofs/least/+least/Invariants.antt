use Rattle.std.proofs.Common.{length}
use Rattle.ipg_solve.proofs.least.+least.Given as goal

abbrev pub decreases-least : goal.decreases-least
decreases-least l = length l.terms.now
