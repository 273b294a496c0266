-- Labels of rules, and a search that spreads its root's label along edges.
use Rattle.std.specs.Prelude.{◌≡◌, ℕ, ◌+◌, ◌*◌, ◌<◌, ◌≤◌, ◌⊎◌, ◌==◌, if◌then◌else◌, List, [], ◌∷◌, Option, Some, None, All, Contains, length, slice_index_or}
use Rattle.ipg_graph.specs.Graph.{Graph, caller, callee, IsLive, IsWhole}
use Rattle.ipg_graph_parts.specs.Way.{Leads}
use Rattle.ipg_graph_parts.specs.declared.labels.Search as code

-- a search from a root, over the rules that have the label `open` among `fence`
pub record Field : Type 0 where
  pub graph : Graph
  pub fence : List (Option ℕ)
  pub open_label : Option ℕ
  pub root : ℕ

abbrev pub field_of : code.Search → Field
field_of s = record {
  graph = record { rules = s.from.now.limit; callers = s.from.now.keys; callees = s.to.now.keys };
  fence = s.fence.now;
  open_label = s.open;
  root = s.root;
}

abbrev pub label : List (Option ℕ) → ℕ → Option ℕ
label labels v = slice_index_or labels v None

abbrev pub IsLabelled : List (Option ℕ) → ℕ → ℕ → Type 0
IsLabelled labels r v = label labels v ≡ Some r

-- v may be entered
abbrev pub IsOpen : Field → ℕ → Type 0
IsOpen f v = label f.fence v ≡ f.open_label

-- what a search needs
pub record IsSearch (s : code.Search) : Type 0 where
  pub whole : IsWhole (field_of s).graph
  pub limit : s.to.now.limit ≡ s.from.now.limit
  pub fence : length s.fence.now ≡ s.from.now.limit
  pub root : s.root < s.from.now.limit
  pub start : IsOpen (field_of s) s.root

-- one where it is another label than r, or none
abbrev pub other : ℕ → Option ℕ → ℕ
other r None = 1
other r (Some l) = if l == r then 0 else 1

-- how many rules have another label than r, or none
abbrev pub others : ℕ → List (Option ℕ) → ℕ
others r [] = 0
others r (l ∷ labels) = other r l + others r labels

-- what is left to do
abbrev pub work : ℕ → List (Option ℕ) → List ℕ → ℕ
work r labels waiting = length waiting + 2 * others r labels

-- no label but r was put
pub record Keeps (r : ℕ) (old new : List (Option ℕ)) : Type 0 where
  pub kept : (v : ℕ) → IsLabelled new r v ⊎ (label new v ≡ label old v)

-- the root's label stands at exactly the rules to which ways lead from it over open rules
pub record IsFilled (f : Field) (labels : List (Option ℕ)) : Type 0 where
  pub sized : length labels ≡ f.graph.rules
  pub start : IsLabelled labels f.root f.root
  pub only : (v : ℕ) → IsLabelled labels f.root v → IsOpen f v × Leads f.graph f.root v
  pub closed : (e : ℕ) → IsLive f.graph e → IsLabelled labels f.root (caller f.graph e) → IsOpen f (callee f.graph e)
      → IsLabelled labels f.root (callee f.graph e)

-- the edge is the next one to try, or stands behind it
abbrev pub IsLeft : Option ℕ → ℕ → Type 0
IsLeft None e = ⊥
IsLeft (Some next) e = next ≤ e

-- on the way there: rules wait, and one is being gone on from, by its edges from the next one on
pub record IsSpreading (f : Field) (labels : List (Option ℕ)) (waiting : List ℕ) (rule : ℕ) (next : Option ℕ) : Type 0 where
  pub sized : length labels ≡ f.graph.rules
  pub start : IsLabelled labels f.root f.root
  pub here : IsLabelled labels f.root rule
  pub marked : All (IsLabelled labels f.root) waiting
  pub only : (v : ℕ) → IsLabelled labels f.root v → IsOpen f v × Leads f.graph f.root v
  pub done : (e : ℕ) → IsLive f.graph e → IsLabelled labels f.root (caller f.graph e) → IsOpen f (callee f.graph e)
      → IsLabelled labels f.root (callee f.graph e) ⊎ (Contains waiting (caller f.graph e) ⊎ ((caller f.graph e ≡ rule) × IsLeft next e))
