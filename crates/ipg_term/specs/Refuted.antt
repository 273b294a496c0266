-- Edges and cycles that are refuted, and the first cycle among several that can loop.
use Rattle.std.specs.Prelude.{◌≡◌, ℕ, ℤ, List, ◌++◌, map, IsTrue}
use Rattle.std.specs.List.{AllByRecursion}
use Rattle.ipg_graph.specs.Graph.{Graph}
use Rattle.ipg_graph.specs.Cycle.{IsSimpleCycle, StandsBefore}
use Rattle.ipg_graph.specs.Answers.{Spot, Start, IsAfter, IsRun}
use Rattle.ipg_cert.specs.declared.refutation.Refutation.{Refutation}
use Rattle.ipg_proof.specs.Calls.{CallGraph, joint_of, edge_checks, cycle_checks}
use Rattle.ipg_proof.specs.Places.{Rise}
use Rattle.ipg_solve_values.specs.Least.{IsLeast}
use Rattle.ipg_term.specs.Loops.{CanLoop}
use Rattle.ipg_term.specs.declared.fault.TermWhy.{TermWhy}
use Rattle.ipg_term.specs.declared.fault.TermWhy.TheVariants.{MayLoop, Memory}

abbrev pub EdgesCheck : CallGraph → List (ℕ × Refutation) → Type 0
EdgesCheck calls dead = AllByRecursion (λ entry. IsTrue (edge_checks calls entry)) dead

abbrev pub CyclesCheck : CallGraph → List (List ℕ × Refutation) → Type 0
CyclesCheck calls cycles = AllByRecursion (λ entry. IsTrue (cycle_checks calls entry)) cycles

-- dead edges by rising number, all of them below `edges`, each with a refutation that checks
pub record AreDead (calls : CallGraph) (edges : ℕ) (dead : List (ℕ × Refutation)) : Type 0 where
  pub rise : Rise edges 0 (map (λ entry. entry.0) dead)
  pub check : EdgesCheck calls dead

-- the cycles up to the spot are those that are listed, each is refuted, and cycles that can loop come later
pub record AreRefuted (graph : Graph) (calls : CallGraph) (at : Spot) (cycles : List (List ℕ × Refutation)) : Type 0 where
  pub run : (later : List (List ℕ)) → IsRun graph at later → IsRun graph Start (map (λ entry. entry.0) cycles ++ later)
  pub check : CyclesCheck calls cycles
  pub later : (cycle : List ℕ) → IsSimpleCycle graph cycle → CanLoop calls cycle → IsAfter at cycle

-- the cycle that is told can loop, at values of which the first is least
abbrev pub IsLoop : CallGraph → List ℕ → TermWhy → Type 0
IsLoop calls cycle (MayLoop told values) = (told ≡ cycle) × IsLeast (joint_of calls cycle).0 (joint_of calls cycle).1 0 values
IsLoop calls cycle Memory = Unit {0}

-- so can the cycle of the graph, at no lesser length, and no cycle before it can
pub record IsFirstOf (graph : Graph) (calls : CallGraph) (cycle : List ℕ) (values : List ℤ) : Type 0 where
  pub simple : IsSimpleCycle graph cycle
  pub least : IsLeast (joint_of calls cycle).0 (joint_of calls cycle).1 0 values
  pub first : (other : List ℕ) → IsSimpleCycle graph other → StandsBefore other cycle → ¬ CanLoop calls other

abbrev pub IsReasonIn : Graph → CallGraph → TermWhy → Type 0
IsReasonIn graph calls (MayLoop cycle values) = IsFirstOf graph calls cycle values
IsReasonIn graph calls Memory = Unit {0}
