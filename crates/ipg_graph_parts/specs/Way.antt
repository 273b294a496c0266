-- Ways along edges.
use Rattle.std.specs.Prelude.{◌≡◌, ℕ, List, [], ◌∷◌}
use Rattle.ipg_graph.specs.Graph.{Graph, caller, callee, IsLive}

-- the edges lead one into the next, from u to v
abbrev pub IsWay : Graph → ℕ → ℕ → List ℕ → Type 0
IsWay g u v [] = u ≡ v
IsWay g u v (e ∷ way) = IsLive g e × ((caller g e ≡ u) × IsWay g (callee g e) v way)

abbrev pub Leads : Graph → ℕ → ℕ → Type 0
Leads g u v = (way : List ℕ) × IsWay g u v way

-- ways lead from one to the other, and back
abbrev pub IsTied : Graph → ℕ → ℕ → Type 0
IsTied g u v = Leads g u v × Leads g v u

-- each edge from callee to caller
abbrev pub turned : Graph → Graph
turned g = record { rules = g.rules; callers = g.callees; callees = g.callers }
