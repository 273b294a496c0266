-- Laws of how parsing ends.
use Rattle.std.specs.Prelude.{◌≡◌, ◌≢◌, ℕ, ◌≤◌, List, [], length, Some, Err, Bool, slice_get}
use Rattle.std.specs.List.{AllByRecursion}
use Rattle.ipg_core.specs.Grammar.{Grammar}
use Rattle.ipg_core.specs.Environment.{Values}
use Rattle.ipg_core.specs.Run.{Deep, Asked}
use Rattle.ipg_core.specs.Meaning.{rule_on, den}
use Rattle.ipg_core.specs.Good.{Good}
use Rattle.ipg_core.specs.MustTouch.{Marks, AreLimit}
use Rattle.ipg_core.specs.Grown.{IsInput}
use Rattle.ipg_core.specs.Total.{Fits, Total, height_for}
use Rattle.ipg_graph.specs.declared.edge.Edge.{Edge}
use Rattle.ipg_facts_edges.specs.Edges.{edges_of}
use Rattle.ipg_facts_laws.specs.Reached.{Reached}
use Rattle.ipg_facts_laws.specs.Along.{DeadAreNeverReached, CyclesAreNeverReached}
use Rattle.ipg_facts_laws.specs.Conditions.{DeadAreUnsolvable, CyclesAreUnsolvable}
use Rattle.ipg_facts_laws.specs.Nest.{nest}

-- a call that the rule r makes on s is an edge's; on the whole of s, the edge is reached
pub record IsEdgeCall (g : Grammar) (h r : ℕ) (s : List ℕ) (outer : Values) (asked : Asked) : Type 0 where
  pub number : ℕ
  pub edge : Edge
  pub at : slice_get (edges_of g) number ≡ Some edge
  pub caller : edge.caller ≡ r
  pub callee : edge.callee ≡ asked.callee
  pub reached : asked.from ≡ 0 → asked.to ≡ length s → Reached g edge s outer h

abbrev pub CallsAreEdges : Type 0
CallsAreEdges = (g : Grammar) (h r : ℕ) (s : List ℕ) (outer : Values) → AllByRecursion (IsEdgeCall g h r s outer) (rule_on (den g h) g r s outer).asked

-- where no simple cycle of edges is reached on parts of one length, parsing ends; dead edges are never reached, and left out
abbrev pub EndsWithoutCycles : Type 0
EndsWithoutCycles = (g : Grammar) (dead : List Bool) → Good g → DeadAreNeverReached g dead → CyclesAreNeverReached g dead → Total g

-- where the conditions of no simple cycle of edges can hold together, parsing ends; edges whose own cannot hold are left out
abbrev pub EndsWhereNoneSolve : Type 0
EndsWhereNoneSolve = (g : Grammar) (marks : Marks) (dead : List Bool)
    → Good g → AreLimit g marks → DeadAreUnsolvable g marks dead → CyclesAreUnsolvable g marks dead → Total g

-- a larger height makes the same run, with the same calls, as any whose answer isn't Deep
abbrev pub RunsAgree : Type 0
RunsAgree = (g : Grammar) (low high r : ℕ) (s : List ℕ) (outer : Values)
    → low ≤ high → (rule_on (den g low) g r s outer).answer ≢ Err Deep → rule_on (den g high) g r s outer ≡ rule_on (den g low) g r s outer

-- so calls nest as deep at it
abbrev pub NestsAgree : Type 0
NestsAgree = (g : Grammar) (low high r : ℕ) (s : List ℕ) (outer : Values)
    → low ≤ high → den g low r s outer ≢ Err Deep → nest g high r s outer ≡ nest g low r s outer

-- in a total grammar calls of what fits nest no deeper than the height that suffices
abbrev pub NestsWithinHeight : Type 0
NestsWithinHeight = (g : Grammar) → Total g → (h r : ℕ) (s : List ℕ) (outer : Values) → Fits g r s outer → nest g h r s outer ≤ height_for g s

-- and so do those of the first rule on an input
abbrev pub InputsNestWithinHeight : Type 0
InputsNestWithinHeight = (g : Grammar) → Good g → Total g → (h : ℕ) (s : List ℕ) → IsInput s → nest g h 0 s [] ≤ height_for g s
