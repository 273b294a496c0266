-- A simple cycle, read edge by edge.
use Rattle.std.specs.Prelude.{◌≡◌, ℕ, List, [], ◌∷◌, Bool, true, false, not, ◌&&◌, ◌==◌, nat_lt, if◌then◌else◌, slice_index_or, slice_set, replicate}
use Rattle.ipg_graph.specs.Graph.{Graph, caller, callee}

-- before the first edge; on the way from a start, with what was seen of the vertices behind it;
-- back at the start; or nowhere, and never back
pub data Now : Type 0 where
  Fresh : Now
  Open : (start tip : ℕ) (seen : List Bool) → Now
  Closed : Now
  Lost : Now

abbrev pub blank : Graph → List Bool
blank g = replicate g.rules false

-- v may be visited on the way from the start
abbrev pub is_free : ℕ → List Bool → ℕ → Bool
is_free start seen v = nat_lt start v && not (slice_index_or seen v true)

-- over an edge to its callee
unfoldable pub enter : Graph → ℕ → List Bool → ℕ → Now
enter g start seen v =
    if v == start then Closed
    else if is_free start seen v then Open start v (slice_set seen v true)
    else Lost

unfoldable pub step : Graph → Now → ℕ → Now
step g Fresh e = if nat_lt (caller g e) g.rules then enter g (caller g e) (blank g) (callee g e) else Lost
step g (Open start tip seen) e = if caller g e == tip then enter g start seen (callee g e) else Lost
step g Closed e = Lost
step g Lost e = Lost

unfoldable pub run : Graph → Now → List ℕ → Now
run g now [] = now
run g now (e ∷ edges) = run g (step g now e) edges

-- the edges are a simple cycle
abbrev pub Closes : Graph → List ℕ → Type 0
Closes g c = run g Fresh c ≡ Closed

-- nothing that follows closes a cycle
pub record IsBarren (g : Graph) (now : Now) : Type 0 where
  pub never : (c : List ℕ) → run g now c ≡ Closed → ⊥

abbrev pub state_of : List ℕ → ℕ → ℕ → List Bool → Now
state_of [] start tip seen = Fresh
state_of (_ ∷ _) start tip seen = Open start tip seen
