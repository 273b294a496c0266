-- Edges by number, and those that are reached on parts of one length.
use Rattle.std.specs.Prelude.{◌≡◌, ℕ, List, length, Some, true, Bool, slice_get, slice_index_or, option_to_list, false}
use Rattle.std.specs.List.{AllByRecursion, flat_map}
use Rattle.ipg_core.specs.Grammar.{Grammar}
use Rattle.ipg_graph.specs.declared.edge.Edge.{Edge}
use Rattle.ipg_graph.specs.Graph.{Graph, graph_of}
use Rattle.ipg_graph.specs.Cycle.{IsSimpleCycle}
use Rattle.ipg_facts_edges.specs.Edges.{edges_of}
use Rattle.ipg_facts_laws.specs.Reached.{ReachedOn}

-- the edges of these numbers
abbrev pub edges_at : Grammar → List ℕ → List Edge
edges_at g numbers = flat_map (λ e. option_to_list (slice_get (edges_of g) e)) numbers

-- the edges that aren't dead, between the rules
abbrev pub live_edges : Grammar → List Bool → Graph
live_edges g dead = graph_of (length g.rules) (edges_of g) dead

-- a dead edge is reached on no part
abbrev pub DeadAreNeverReached : Grammar → List Bool → Type 0
DeadAreNeverReached g dead = (number n : ℕ) (e : Edge) → slice_get (edges_of g) number ≡ Some e → slice_index_or dead number false ≡ true → ¬ ReachedOn g n e

-- the edges of no simple cycle are all reached on parts of one length
abbrev pub CyclesAreNeverReached : Grammar → List Bool → Type 0
CyclesAreNeverReached g dead = (cycle : List ℕ) (n : ℕ) → IsSimpleCycle (live_edges g dead) cycle → ¬ AllByRecursion (ReachedOn g n) (edges_at g cycle)
