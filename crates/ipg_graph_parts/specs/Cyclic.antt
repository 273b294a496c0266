-- Which edges lie on closed walks.
use Rattle.std.specs.Prelude.{◌≡◌, ℕ, List, ◌∷◌, Bool, true, false, All, slice_index_or}
use Rattle.ipg_graph.specs.Graph.{Graph, IsLive}
use Rattle.ipg_graph.specs.Cycle.{IsClosedWalk}

abbrev pub IsFlagged : List Bool → ℕ → Type 0
IsFlagged flags e = slice_index_or flags e false ≡ true

-- the edges lead one into the next, and the last one to the first one's caller
abbrev pub IsCircle : Graph → List ℕ → Type 0
IsCircle g circle = All (IsLive g) circle × IsClosedWalk g circle

-- a circle of edges begins with e
abbrev pub IsOnCircle : Graph → ℕ → Type 0
IsOnCircle g e = (others : List ℕ) × IsCircle g (e ∷ others)
