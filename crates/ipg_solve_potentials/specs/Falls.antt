-- Levels that fall along the edges of a graph, and circles of edges that fall.
use Rattle.std.specs.Prelude.{◌≡◌, ◌↔◌, ℕ, ◌^◌, ◌<◌, ◌≤◌, Bool, true, false, IsTrue, ℤ, pos, ◌+ℤ◌, ◌≤ℤ◌, ◌<ℤ◌, List, [], ◌∷◌, length, slice_index_or}
use Rattle.std.specs.Int.RustNames.{unsigned_abs}
use Rattle.ipg_solve_potentials.specs.declared.difference.Difference.{Difference}
use Rattle.ipg_solve_potentials.specs.declared.settling.Potentials.{Potentials}
use Rattle.ipg_solve_potentials.specs.declared.settling.Potentials.TheVariants.{Levels, Circle}

abbrev pub level_at : List ℤ → ℕ → ℤ
level_at levels node = slice_index_or levels node (pos 0)

abbrev pub no_edge : Difference
no_edge = record { from = 0; to = 0; fall = pos 0 }

abbrev pub edge_at : List Difference → ℕ → Difference
edge_at edges n = slice_index_or edges n no_edge

-- along the edge the level falls at least as far as the edge says
abbrev pub Falls : List ℤ → Difference → Type 0
Falls levels edge = (level_at levels edge.to +ℤ edge.fall) ≤ℤ level_at levels edge.from

abbrev pub AllFall : List ℤ → List Difference → Type 0
AllFall levels edges = (n : ℕ) → n < length edges → Falls levels (edge_at edges n)

-- the edge joins two of so many nodes, and its fall fits
abbrev pub IsEdge : ℕ → Difference → Type 0
IsEdge nodes edge = (edge.from < nodes) × (edge.to < nodes) × (unsigned_abs edge.fall ≤ 2 ^ 64)

abbrev pub AreEdges : ℕ → List Difference → Type 0
AreEdges nodes edges = (n : ℕ) → n < length edges → IsEdge nodes (edge_at edges n)

-- from the one node the edges of these numbers lead back to the other
abbrev pub LeadBack : List Difference → ℕ → List ℕ → ℕ → Type 0
LeadBack edges node [] start = node ≡ start
LeadBack edges node (n ∷ ns) start = (n < length edges) × ((edge_at edges n).to ≡ node) × LeadBack edges (edge_at edges n).from ns start

-- how far they fall in all
abbrev pub fall_of : List Difference → List ℕ → ℤ
fall_of edges [] = pos 0
fall_of edges (n ∷ ns) = (edge_at edges n).fall +ℤ fall_of edges ns

-- the edges of these numbers lead back to where they end, though they fall
abbrev pub IsCircle : List Difference → List ℕ → Type 0
IsCircle edges circle = (node : ℕ) × LeadBack edges node circle node × (pos 0 <ℤ fall_of edges circle)

-- a level for each node, and they fall along each edge; or a circle that falls, of no more edges than there are nodes
abbrev pub Settles : ℕ → List Difference → Potentials → Type 0
Settles nodes edges (Levels levels) = (length levels ≡ nodes) × AllFall levels edges
Settles nodes edges (Circle circle) = IsCircle edges circle × (length circle ≤ nodes)

abbrev pub is_levels : Potentials → Bool
is_levels (Levels levels) = true
is_levels (Circle circle) = false

-- levels are given exactly where some fall along each edge
abbrev pub IsExact : List Difference → Potentials → Type 0
IsExact edges settled = IsTrue (is_levels settled) ↔ ((levels : List ℤ) × AllFall levels edges)
