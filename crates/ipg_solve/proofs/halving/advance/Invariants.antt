use Rattle.ipg_solve.specs.Cuts.{start_domains}
use Rattle.ipg_solve.proofs.halving.advance.Given as goal

abbrev pub ghost-back : goal.ghost-back
ghost-back g a = start_domains 0 g.around.bounds
