-- Walks along edges, and the simple cycles of their edges.
use Rattle.std.specs.Prelude.{◌≡◌, ℕ, ◌<◌, ◌≤◌, List, [], ◌∷◌, length, All, Contains}
use Rattle.std.specs.List.{AllByRecursion}
use Rattle.ipg_graph.specs.Graph.{Graph, caller, callee, IsLive, IsWhole}
use Rattle.ipg_graph.specs.Cycle.{IsSimpleCycle}

-- the edges lead one into the next, from u to v
abbrev pub Leads : Graph → ℕ → List ℕ → ℕ → Type 0
Leads g u [] v = u ≡ v
Leads g u (e ∷ walk) v = (caller g e ≡ u) × Leads g (callee g e) walk v

pub record IsWalk (g : Graph) (u : ℕ) (walk : List ℕ) (v : ℕ) : Type 0 where
  pub live : AllByRecursion (IsLive g) walk
  pub leads : Leads g u walk v

-- a simple cycle of some of the walk's edges
pub record HoldsCycle (g : Graph) (walk : List ℕ) : Type 0 where
  pub cycle : List ℕ
  pub simple : IsSimpleCycle g cycle
  pub among : All (Contains walk) cycle

-- a walk of as many edges as there are vertices comes to one of them again, and holds a simple cycle
abbrev pub LongWalksHoldCycles : Type 0
LongWalksHoldCycles = (g : Graph) (u v : ℕ) (walk : List ℕ) → IsWhole g → u < g.rules → IsWalk g u walk v → g.rules ≤ length walk → HoldsCycle g walk
