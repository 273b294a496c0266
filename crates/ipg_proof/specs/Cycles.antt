-- The cycles of the edges that aren't dead, among those of all edges.
use Rattle.std.specs.Prelude.{ℕ, List, [], map, IsTrue}
use Rattle.std.specs.List.{AllByRecursion}
use Rattle.ipg_core.specs.Grammar.{Grammar}
use Rattle.ipg_core.specs.MustTouch.{Marks}
use Rattle.ipg_graph.specs.Cycle.{IsSimpleCycle}
use Rattle.ipg_lin.specs.Formula.{Solvable}
use Rattle.ipg_cert.specs.declared.refutation.Refutation.{Refutation}
use Rattle.ipg_proof.specs.Calls.{calls_of, edge_checks, joint_of, live_graph}

-- they are cycles of all edges
abbrev pub LiveCyclesAreCycles : Type 0
LiveCyclesAreCycles = (g : Grammar) (dead cycle : List ℕ) → IsSimpleCycle (live_graph g dead) cycle → IsSimpleCycle (live_graph g []) cycle

-- and those are all whose conditions can hold together, where each dead edge has a refutation that checks
abbrev pub LoopsAreLive : Type 0
LoopsAreLive = (g : Grammar) (marks : Marks) (dead : List (ℕ × Refutation)) (cycle : List ℕ)
    → AllByRecursion (λ entry. IsTrue (edge_checks (calls_of g marks) entry)) dead
    → IsSimpleCycle (live_graph g []) cycle → Solvable (joint_of (calls_of g marks) cycle).0 (joint_of (calls_of g marks) cycle).1
    → IsSimpleCycle (live_graph g (map (λ entry. entry.0) dead)) cycle
