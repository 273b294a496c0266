use Rattle.ipg_solve_potentials.specs.Trails.{AreStarts}
use Rattle.ipg_solve_potentials.proofs.trail.start_trails.Given as goal

abbrev pub invariant-loop-node : goal.invariant-loop-node
invariant-loop-node l = AreStarts l.node l.trails.items
