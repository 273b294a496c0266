use Rattle.std.proofs.Common.{◌≡◌, ◌++◌, drop}
use Rattle.ipg_solve.specs.Cuts.{start_domains}
use Rattle.ipg_solve.proofs.halving.domains_of.Given as goal

abbrev pub invariant-loop-x : goal.invariant-loop-x
invariant-loop-x l = l.domains.items ++ start_domains l.x (drop l.x l.bounds) ≡ start_domains 0 l.bounds
