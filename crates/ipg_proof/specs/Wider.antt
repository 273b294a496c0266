-- No grammar lost its acceptance when the conditions of edges came to know more.
use Rattle.std.specs.Prelude.{ℕ, List, [], slice_get, option_map, option_to_list}
use Rattle.std.specs.List.{flat_map}
use Rattle.ipg_core.specs.Grammar.{Grammar}
use Rattle.ipg_core.specs.MustTouch.{Marks, AreLimit}
use Rattle.ipg_graph.specs.Cycle.{IsSimpleCycle}
use Rattle.ipg_lin.specs.declared.formula.Formula.{Formula}
use Rattle.ipg_lin.specs.declared.formula.Boxed.{Boxed}
use Rattle.ipg_lin.specs.Formula.{Solvable}
use Rattle.ipg_facts.specs.Keep.{keep_before}
use Rattle.ipg_facts_forms.specs.Joint.{joint}
use Rattle.ipg_proof.specs.Calls.{CallGraph, calls_of, live_graph}
use Rattle.ipg_proof.specs.Proves.{Accepts}

-- the earlier conditions of a cycle's edges at one length of the part
abbrev pub joint_before : CallGraph → List ℕ → Formula × Boxed
joint_before calls cycle =
    joint (flat_map (λ e. option_to_list (option_map (keep_before calls.grammar calls.marks) (slice_get calls.edges e))) cycle)

-- by the earlier conditions no cycle of edges can be walked on one length of the part
pub record AcceptsBefore (g : Grammar) : Type 0 where
  pub marks : Marks
  pub limit : AreLimit g marks
  pub never : (cycle : List ℕ) → IsSimpleCycle (live_graph g []) cycle
      → ¬ Solvable (joint_before (calls_of g marks) cycle).0 (joint_before (calls_of g marks) cycle).1

abbrev pub AcceptedStays : Type 0
AcceptedStays = (g : Grammar) → AcceptsBefore g → Accepts g
