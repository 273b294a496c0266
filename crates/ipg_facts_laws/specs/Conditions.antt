-- The conditions of edges by number, alone and together.
use Rattle.std.specs.Prelude.{◌≡◌, ℕ, List, Bool, true, false, Option, Some, slice_get, slice_index_or, option_map, option_to_list}
use Rattle.std.specs.List.{flat_map}
use Rattle.ipg_core.specs.Grammar.{Grammar}
use Rattle.ipg_core.specs.MustTouch.{Marks}
use Rattle.ipg_graph.specs.Cycle.{IsSimpleCycle}
use Rattle.ipg_facts_edges.specs.Edges.{edges_of}
use Rattle.ipg_lin.specs.declared.formula.Formula.{Formula}
use Rattle.ipg_lin.specs.declared.formula.Boxed.{Boxed}
use Rattle.ipg_lin.specs.Formula.{Solvable}
use Rattle.ipg_facts.specs.Keep.{keep}
use Rattle.ipg_facts_forms.specs.Joint.{joint}
use Rattle.ipg_facts_laws.specs.Along.{live_edges}

-- the conditions of the edge of a number
abbrev pub keep_at : Grammar → Marks → ℕ → Option (Formula × Boxed)
keep_at g marks number = option_map (keep g marks) (slice_get (edges_of g) number)

-- those of the edges of these numbers, at one length of the part
abbrev pub joint_at : Grammar → Marks → List ℕ → Formula × Boxed
joint_at g marks numbers = joint (flat_map (λ e. option_to_list (keep_at g marks e)) numbers)

abbrev pub IsUnsolvable : Formula × Boxed → Type 0
IsUnsolvable part = ¬ Solvable part.0 part.1

-- the conditions of a dead edge cannot hold
abbrev pub DeadAreUnsolvable : Grammar → Marks → List Bool → Type 0
DeadAreUnsolvable g marks dead = (number : ℕ) (part : Formula × Boxed)
    → slice_index_or dead number false ≡ true → keep_at g marks number ≡ Some part → IsUnsolvable part

-- nor can those of a simple cycle of the other edges together
abbrev pub CyclesAreUnsolvable : Grammar → Marks → List Bool → Type 0
CyclesAreUnsolvable g marks dead = (cycle : List ℕ) → IsSimpleCycle (live_edges g dead) cycle → IsUnsolvable (joint_at g marks cycle)
