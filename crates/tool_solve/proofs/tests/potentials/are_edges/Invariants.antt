use Rattle.std.proofs.Common.{ℕ, ◌<◌}
use Rattle.ipg_solve_potentials.specs.Falls.{IsEdge, edge_at}
use Rattle.tool_solve.proofs.tests.potentials.are_edges.Given as goal

abbrev pub invariant-loop-n : goal.invariant-loop-n
invariant-loop-n l = (n : ℕ) → n < l.n → IsEdge l.nodes (edge_at l.edges n)
