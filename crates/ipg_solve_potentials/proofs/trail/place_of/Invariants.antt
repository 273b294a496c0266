use Rattle.std.proofs.Common.{take}
use Rattle.ipg_solve_potentials.specs.Trails.{PassesBy}
use Rattle.ipg_solve_potentials.proofs.trail.place_of.Given as goal

-- the stops so far are at other nodes
abbrev pub invariant-loop-at : goal.invariant-loop-at
invariant-loop-at l = PassesBy l.node (take l.at l.trail)
