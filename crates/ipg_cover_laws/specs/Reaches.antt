-- The rules that calls lead to.
use Rattle.std.specs.Prelude.{◌≡◌, ℕ, Some, slice_get}
use Rattle.ipg_core.specs.Grammar.{Grammar}
use Rattle.ipg_graph.specs.declared.edge.Edge.{Edge}
use Rattle.ipg_facts_edges.specs.Edges.{edges_of}

-- a rule leads to itself, and to what a rule that it leads to calls
pub data Reaches (g : Grammar) (first : ℕ) : ℕ → Type 0 where
  itself : Reaches g first first
  further : (number : ℕ) (e : Edge) → slice_get (edges_of g) number ≡ Some e → Reaches g first e.caller → Reaches g first e.callee
