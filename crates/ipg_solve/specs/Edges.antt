-- Facts that are differences as edges of a graph: the ground is node 0, and variable x is node x + 1.
use Rattle.std.specs.Prelude.{◌≡◌, ℕ, ◌+◌, ◌^◌, ◌<◌, ◌≤◌, if◌then◌else◌, ℤ, pos, negsuc, ◌-ℤ◌, ◌≤ℤ◌, List, [], ◌∷◌, map, length, slice_index_or}
use Rattle.std.specs.Ordering.{int_eq}
use Rattle.std.specs.List.{flat_map}
use Rattle.std.specs.Int.RustNames.{unsigned_abs}
use Rattle.ipg_lin.specs.Form.{Form}
use Rattle.ipg_cert.specs.Facts.{Fact, AtMost, Choice}
use Rattle.ipg_solve_potentials.specs.declared.difference.Difference.{Difference}
use Rattle.ipg_solve_potentials.specs.Falls.{level_at}
use Rattle.ipg_solve.specs.Within.{no_bounds}

-- the node of the first variable that is taken so often, or the ground
abbrev pub node_of : ℤ → List (ℕ × ℤ) → ℕ
node_of often [] = 0
node_of often (term ∷ terms) = if int_eq term.1 often then term.0 + 1 else node_of often terms

-- x - y + c <= 0: from y to x the level falls by c at least
abbrev pub edge_of : Form → Difference
edge_of form = record { from = node_of (negsuc 0) form.terms; to = node_of (pos 1) form.terms; fall = form.constant }

abbrev pub edges_of_fact : Fact → List Difference
edges_of_fact (AtMost form) = edge_of form ∷ []
edges_of_fact (Choice members) = []

abbrev pub edges_in : List Fact → List Difference
edges_in facts = flat_map edges_of_fact facts

-- the form's constant fits
abbrev pub IsSized : Fact → Type 0
IsSized (AtMost form) = unsigned_abs form.constant ≤ 2 ^ 64
IsSized (Choice members) = Unit {0}

-- each variable's level above the ground lies within its bounds
abbrev pub AreBetween : List ℤ → List (ℤ × ℤ) → Type 0
AreBetween levels bounds =
    (x : ℕ) → x < length bounds
    → ((slice_index_or bounds x no_bounds).0 ≤ℤ (level_at levels (x + 1) -ℤ level_at levels 0)) ×
    ((level_at levels (x + 1) -ℤ level_at levels 0) ≤ℤ (slice_index_or bounds x no_bounds).1)

-- each value is its variable's level above the ground
abbrev pub AreHeights : ℕ → List ℤ → List ℤ → Type 0
AreHeights vars levels values = (length values ≡ vars) × ((x : ℕ) → x < vars → slice_index_or values x (pos 0) ≡ level_at levels (x + 1) -ℤ level_at levels 0)

-- each fact once
abbrev pub entries_of : List ℕ → List (ℕ × ℕ)
entries_of facts = map (λ fact. (1, fact)) facts
