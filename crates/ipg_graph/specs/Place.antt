-- A place among the lists of edges, in lexicographic order, and the cycles that stand at or after it.
use Rattle.std.specs.Prelude.{ℕ, List, [], ◌∷◌, ◌^◌, ◌*◌, ◌+◌, ◌-◌, zero, suc}
use Rattle.ipg_graph.specs.Graph.{Graph}
use Rattle.ipg_graph.specs.Cycle.{StandsUpTo, StandsBefore}
use Rattle.ipg_graph.specs.Walk.{Closes}

-- no cycle stands between the two
pub record IsSame (g : Graph) (p q : List ℕ) : Type 0 where
  pub on : (c : List ℕ) → Closes g c → StandsUpTo p c → StandsUpTo q c
  pub back : (c : List ℕ) → Closes g c → StandsUpTo q c → StandsUpTo p c

-- how much of the search is left at a place, with at most `depth` edges and `edges` of them to choose from
unfoldable pub left : ℕ → ℕ → List ℕ → ℕ
left edges depth [] = (edges + 2) ^ depth
left edges zero (_ ∷ _) = 0
left edges (suc depth) (e ∷ place) = (edges - e) * (edges + 2) ^ depth + left edges depth place

-- the cycles behind a found one are those from the place on
pub record IsBehind (g : Graph) (last place : List ℕ) : Type 0 where
  pub on : (c : List ℕ) → Closes g c → StandsBefore last c → StandsUpTo place c
  pub back : (c : List ℕ) → Closes g c → StandsUpTo place c → StandsBefore last c
