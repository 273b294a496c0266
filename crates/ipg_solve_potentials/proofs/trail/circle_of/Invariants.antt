use Rattle.std.proofs.Common.{◌≡◌, ◌∷◌, ◌++◌, drop}
use Rattle.ipg_solve_potentials.specs.Trails.{edges_of}
use Rattle.ipg_solve_potentials.proofs.trail.circle_of.Given as goal

abbrev pub invariant-loop-stop : goal.invariant-loop-stop
invariant-loop-stop l = l.circle ++ edges_of (drop l.stop-index l.stop-items) ≡ l.edge ∷ edges_of l.stop-items
