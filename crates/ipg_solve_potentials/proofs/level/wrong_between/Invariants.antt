use Rattle.ipg_solve_potentials.specs.Trails.{FallBetween}
use Rattle.ipg_solve_potentials.proofs.level.wrong_between.Given as goal

-- no edge so far is broken
abbrev pub invariant-loop-n : goal.invariant-loop-n
invariant-loop-n l = FallBetween l.from l.n l.levels l.edges
