-- Cycles of calls whose written conditions can hold together at one length of the part, and the first of them.
use Rattle.std.specs.Prelude.{ℕ, ℤ, List, []}
use Rattle.ipg_core.specs.Grammar.{Grammar}
use Rattle.ipg_core.specs.MustTouch.{Marks, AreLimit}
use Rattle.ipg_graph.specs.Cycle.{IsSimpleCycle, StandsBefore}
use Rattle.ipg_lin.specs.Formula.{Solvable}
use Rattle.ipg_proof.specs.Calls.{CallGraph, calls_of, joint_of, live_graph}
use Rattle.ipg_solve_values.specs.Least.{IsLeast}
use Rattle.ipg_term.specs.declared.fault.TermWhy.{TermWhy}
use Rattle.ipg_term.specs.declared.fault.TermWhy.TheVariants.{MayLoop, Memory}

-- some length of the part, with some values, meets the conditions of all the cycle's edges
abbrev pub CanLoop : CallGraph → List ℕ → Type 0
CanLoop calls cycle = Solvable (joint_of calls cycle).0 (joint_of calls cycle).1

-- the cycle can be walked at these values, at no lesser length, and no cycle before it can be walked at all
pub record IsFirstLoop (g : Grammar) (marks : Marks) (cycle : List ℕ) (values : List ℤ) : Type 0 where
  pub simple : IsSimpleCycle (live_graph g []) cycle
  pub least : IsLeast (joint_of (calls_of g marks) cycle).0 (joint_of (calls_of g marks) cycle).1 0 values
  pub first : (other : List ℕ) → IsSimpleCycle (live_graph g []) other → StandsBefore other cycle → ¬ CanLoop (calls_of g marks) other

pub record Loops (g : Grammar) (cycle : List ℕ) (values : List ℤ) : Type 0 where
  pub marks : Marks
  pub limit : AreLimit g marks
  pub first : IsFirstLoop g marks cycle values

-- why a grammar isn't accepted
abbrev pub IsReason : Grammar → TermWhy → Type 0
IsReason g (MayLoop cycle values) = Loops g cycle values
IsReason g Memory = Unit {0}
