-- What a parse comes to.
use Rattle.std.specs.Prelude.{◌≡◌, ℕ, List, length, Result, Ok, Err, Option, Some}
use Rattle.ipg_core.specs.Grammar.{Grammar}
use Rattle.ipg_core.specs.Tree.{Tree}
use Rattle.ipg_core.specs.Within.{TreeWithin}
use Rattle.ipg_core.specs.Run.{Stop, NoTree, OutOfRange}
use Rattle.ipg_mach_moves.specs.Moves.{Evaluation, Known, Tally, moves, opening, ended}
use Rattle.ipg_mach_nodes.specs.Stored.{Source, StandsTree}
use Rattle.ipg_table.specs.Rows.{Rows}
use Rattle.ipg_tree_walk.specs.Parse.{Walked, AllLeft}
use Rattle.ipg_mach.specs.declared.parsing.Outcome as code
use Rattle.ipg_mach.specs.declared.parsing.Outcome.TheVariants as outcome
use Rattle.ipg_mach.specs.Counted.{IsTally}
use Rattle.ipg_mach.specs.Stage.{Stage, source, IsAt}

-- the tree stands at the root of the parse, which is by these tables and of this input; all of its walk is ahead
pub record IsParse (t : Rows) (input : List ℕ) (p : Walked) (one : Tree) : Type 0 where
  pub tables : p.parse.tables ≡ t
  pub bytes : p.parse.input ≡ input
  pub stands : StandsTree (source t input) p.parse.store 0 p.parse.root one
  pub within : TreeWithin (length input) one
  pub ahead : AllLeft p

-- the outcome is the answer, with the counts of a tally
abbrev pub IsOutcome : {A : Type 0} → Rows → List ℕ → code.Outcome A → Result Tree Stop → Tally → Type 0
IsOutcome t input (outcome.Tree p) answer tally = (one : Tree) × (answer ≡ Ok one) × IsParse t input p one × IsTally p.parse.counts tally
IsOutcome t input (outcome.NoTree counts) answer tally = (answer ≡ Err NoTree) × IsTally counts tally
IsOutcome t input (outcome.Range counts) answer tally = (answer ≡ Err OutOfRange) × IsTally counts tally

-- the answer, and the tally of the evaluation that has ended with it
pub record Evaluates (g : Grammar) (input : List ℕ) (known : Option Known) (answer : Result Tree Stop) (tally : Tally) : Type 0 where
  pub moved : ℕ
  pub ends : ended (moves moved (opening g input known)) ≡ Some answer
  pub counts : (moves moved (opening g input known)).tally ≡ tally

-- the machine stands for what an evaluation comes to in some moves, and that has ended
pub record Ends (src : Source) (s : Stage) (e : Evaluation) : Type 0 where
  pub moved : ℕ
  pub answer : Result Tree Stop
  pub at : IsAt src s (moves moved e)
  pub ends : ended (moves moved e) ≡ Some answer
