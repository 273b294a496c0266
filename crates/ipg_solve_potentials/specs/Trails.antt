-- For each node the trail by which its level was found: stops, the last one first.
use Rattle.std.specs.Prelude.{◌≡◌, ℕ, ◌*◌, ◌^◌, ◌<◌, ◌≤◌, Bool, true, false, nat_eq, ℤ, pos, ◌+ℤ◌, ◌≤ℤ◌}
use Rattle.std.specs.Prelude.{int_lt, List, [], ◌∷◌, map, length, slice_index_or, Option, None, Some}
use Rattle.std.specs.Int.RustNames.{unsigned_abs}
use Rattle.std.specs.List.{AllByRecursion, IsDistinct, sum_by}
use Rattle.ipg_solve_potentials.specs.declared.difference.Difference.{Difference}
use Rattle.ipg_solve_potentials.specs.declared.trail.Stop.{Stop}
use Rattle.ipg_solve_potentials.specs.Falls.{level_at, edge_at, IsCircle}

-- the level falls less than the edge says
abbrev pub is_wrong : List ℤ → Difference → Bool
is_wrong levels edge = int_lt (level_at levels edge.from) (level_at levels edge.to +ℤ edge.fall)

-- the edge of this number is one that the levels break
abbrev pub IsWrong : List ℤ → List Difference → ℕ → Type 0
IsWrong levels edges n = (n < length edges) × (is_wrong levels (edge_at edges n) ≡ true)

-- the levels fall along the edges from the one number to before the other
abbrev pub FallBetween : ℕ → ℕ → List ℤ → List Difference → Type 0
FallBetween from to levels edges = (n : ℕ) → from ≤ n → n < to → is_wrong levels (edge_at edges n) ≡ false

-- no level is larger than so many falls
abbrev pub AreSmall : List ℤ → Type 0
AreSmall levels = (node : ℕ) → unsigned_abs (level_at levels node) ≤ length levels * 2 ^ 64

abbrev pub no_stop : Stop
no_stop = record { node = 0; level = pos 0; edge = 0 }

abbrev pub stop_at : List Stop → ℕ → Stop
stop_at trail place = slice_index_or trail place no_stop

abbrev pub trail_at : List (List Stop) → ℕ → List Stop
trail_at trails node = slice_index_or trails node []

abbrev pub nodes_of : List Stop → List ℕ
nodes_of trail = map (λ s. s.node) trail

abbrev pub edges_of : List Stop → List ℕ
edges_of trail = map (λ s. s.edge) trail

-- the trail does not pass the node
abbrev pub PassesBy : ℕ → List Stop → Type 0
PassesBy node trail = AllByRecursion (λ other. nat_eq node other ≡ false) (nodes_of trail)

-- each stop was reached from the one before it by its edge
abbrev pub IsTrail : List Difference → List Stop → Type 0
IsTrail edges [] = Unit {0}
IsTrail edges (stop ∷ []) = Unit {0}
IsTrail edges (stop ∷ before ∷ trail) =
    (stop.edge < length edges) × ((edge_at edges stop.edge).to ≡ stop.node) × ((edge_at edges stop.edge).from ≡ before.node)
    × (before.level ≡ stop.level +ℤ (edge_at edges stop.edge).fall) × IsTrail edges (before ∷ trail)

-- a node's level is now at most what it was at the stop
abbrev pub IsAbove : List ℤ → Stop → Type 0
IsAbove levels stop = (stop.node < length levels) × (level_at levels stop.node ≤ℤ stop.level)

-- The trail leads to the node at its level, and passes no node twice.
pub record LeadsTo (edges : List Difference) (levels : List ℤ) (node : ℕ) (trail : List Stop) : Type 0 where
  pub some : 0 < length trail
  pub is_trail : IsTrail edges trail
  pub ends : (stop_at trail 0).node ≡ node
  pub level : (stop_at trail 0).level ≡ level_at levels node
  pub apart : IsDistinct nat_eq (nodes_of trail)
  pub above : AllByRecursion (IsAbove levels) trail
  pub size : unsigned_abs (level_at levels node) ≤ length trail * 2 ^ 64

-- Each node has a trail that leads to it.
pub record State (edges : List Difference) (levels : List ℤ) (trails : List (List Stop)) : Type 0 where
  pub each : length trails ≡ length levels
  pub lead : (node : ℕ) → node < length levels → LeadsTo edges levels node (trail_at trails node)

-- each node's trail is the stop there at level 0
abbrev pub AreStarts : ℕ → List (List Stop) → Type 0
AreStarts nodes trails = (length trails ≡ nodes) × ((node : ℕ) → node < nodes → trail_at trails node ≡ record { node = node; level = pos 0; edge = 0 } ∷ [])

-- how much lower the levels can become
abbrev pub room : ℕ → List ℤ → ℕ
room most levels = sum_by (λ level. unsigned_abs (level +ℤ pos most)) levels

-- a short circle was found, or some level is lower than before
abbrev pub Lowers : List Difference → List ℤ → List ℤ → List (List Stop) → Option (List ℕ) → Type 0
Lowers edges old levels trails None =
    (length levels ≡ length old) × State edges levels trails × (room (length old * 2 ^ 64) levels < room (length old * 2 ^ 64) old)
Lowers edges old levels trails (Some circle) = IsCircle edges circle × (length circle ≤ length old)
