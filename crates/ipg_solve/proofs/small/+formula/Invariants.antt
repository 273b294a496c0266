use Rattle.ipg_solve.proofs.small.+formula.Given as goal

abbrev pub decreases-formula : goal.decreases-formula
decreases-formula l = l.level
