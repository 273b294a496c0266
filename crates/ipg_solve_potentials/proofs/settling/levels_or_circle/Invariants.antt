use Rattle.std.proofs.Common.{◌≡◌, ◌*◌, ◌^◌, ◌≤◌, length}
use Rattle.ipg_solve_potentials.specs.Trails.{State, room}
use Rattle.ipg_solve_potentials.proofs.settling.levels_or_circle.Given as goal

abbrev pub invariant-loop-n : goal.invariant-loop-n
invariant-loop-n l = record {
  each : length l.levels.items ≡ l.nodes;
  state : State l.edges l.levels.items l.trails.items;
  within : l.from ≤ length l.edges;
}

abbrev pub decreases-loop-n : goal.decreases-loop-n
decreases-loop-n l = room (l.nodes * 2 ^ 64) l.levels.items
