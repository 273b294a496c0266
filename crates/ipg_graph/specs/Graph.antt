-- Edges by number, from caller to callee; a dead edge leads from and to no rule.
use Rattle.std.specs.Prelude.{◌≡◌, ℕ, ◌<◌, ◌^◌, length, List, [], ◌∷◌, Bool, slice_index_or, if◌then◌else◌}
use Rattle.ipg_graph.specs.declared.edge.Edge.{Edge}

-- `rules` in the place of a rule's number says that there is none
pub record Graph : Type 0 where
  pub rules : ℕ
  pub callers : List ℕ
  pub callees : List ℕ

abbrev pub caller : Graph → ℕ → ℕ
caller g e = slice_index_or g.callers e g.rules

abbrev pub callee : Graph → ℕ → ℕ
callee g e = slice_index_or g.callees e g.rules

-- e is the number of an edge that is not dead
abbrev pub IsLive : Graph → ℕ → Type 0
IsLive g e = caller g e < g.rules

-- one end of each edge
abbrev pub ends : ℕ → (Edge → ℕ) → List Edge → List Bool → List ℕ
ends rules end [] dead = []
ends rules end (e ∷ edges) [] = end e ∷ ends rules end edges []
ends rules end (e ∷ edges) (d ∷ dead) = (if d then rules else end e) ∷ ends rules end edges dead

abbrev pub graph_of : ℕ → List Edge → List Bool → Graph
graph_of rules edges dead = record {
  rules = rules;
  callers = ends rules (λ e. e.caller) edges dead;
  callees = ends rules (λ e. e.callee) edges dead;
}

-- both ends are rules
abbrev pub IsInside : ℕ → Edge → Type 0
IsInside rules e = (e.caller < rules) × (e.callee < rules)

-- what each graph of edges between rules keeps
pub record IsWhole (g : Graph) : Type 0 where
  pub few : length g.callers < 2 ^ 32
  pub same : length g.callees ≡ length g.callers
  pub inside : (e : ℕ) → IsLive g e → callee g e < g.rules
  pub both : (e : ℕ) → callee g e < g.rules → IsLive g e
