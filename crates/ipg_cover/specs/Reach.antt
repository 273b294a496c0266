-- The rules that parsing may come to.
use Rattle.std.specs.Prelude.{◌≡◌, ℕ, ◌↔◌, List, length, Contains, true}
use Rattle.ipg_core.specs.Grammar.{Grammar}
use Rattle.ipg_core.specs.MustTouch.{Marks, is_marked}
use Rattle.ipg_graph.specs.declared.edge.Edge.{Edge}
use Rattle.ipg_facts_edges.specs.Edges.{edges_of}

-- the first rule, and each that a rule calls to which these edges lead
pub data Leads (edges : List Edge) : ℕ → Type 0 where
  first : Leads edges 0
  called : (e : Edge) → Contains edges e → Leads edges e.caller → Leads edges e.callee

abbrev pub Reaches : Grammar → ℕ → Type 0
Reaches g rule = Leads (edges_of g) rule

-- a flag for each rule, which says whether it is reached
pub record AreReached (g : Grammar) (flags : Marks) : Type 0 where
  pub size : length flags ≡ length g.rules
  pub exact : (rule : ℕ) → (is_marked flags rule ≡ true) ↔ Reaches g rule
