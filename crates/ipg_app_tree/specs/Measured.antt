-- How large the tree of an input is.
use Rattle.std.specs.Prelude.{◌≡◌, ◌≢◌, ℕ, ◌-◌, ◌^◌, List, [], length, min, Result, Ok, Err}
use Rattle.ipg_core.specs.Grammar.{Grammar}
use Rattle.ipg_core.specs.Lines.{tree_lines}
use Rattle.ipg_core.specs.Tree.{Tree}
use Rattle.ipg_core.specs.Run.{Stop, NoTree, OutOfRange, Deep}
use Rattle.ipg_core.specs.Meaning.{Means, den}
use Rattle.ipg_mach_moves.specs.Moves.{Key}
use Rattle.ipg_mach_count_laws.specs.Counts.{IsReach}
use Rattle.ipg_app_tree.specs.declared.measuring.Size.{Size}
use Rattle.ipg_app_tree.specs.declared.measuring.Measured.{Measured}
use Rattle.ipg_app_tree.specs.declared.measuring.Measured.TheVariants as measured

-- the lines of the tree, and a body for each global rule on a part that the parse comes to
pub record IsSize (g : Grammar) (input : List ℕ) (one : Tree) (size : Size) : Type 0 where
  pub lines : size.lines ≡ min (length (tree_lines g 0 0 one)) (2 ^ 64 - 1)
  pub height : ℕ
  pub settled : den g height 0 input [] ≢ Err Deep
  pub keys : List Key
  pub reach : IsReach g input height keys
  pub bodies : size.bodies ≡ min (length keys) (2 ^ 64 - 1)

abbrev pub IsMeasured : Grammar → List ℕ → Result Tree Stop → Measured → Type 0
IsMeasured g input answer (measured.Tree size) = (one : Tree) × (answer ≡ Ok one) × IsSize g input one size
IsMeasured g input answer measured.NoTree = answer ≡ Err NoTree
IsMeasured g input answer measured.Range = answer ≡ Err OutOfRange

-- what is measured is of what the grammar means on the input
pub record Measures (g : Grammar) (input : List ℕ) (m : Measured) : Type 0 where
  pub answer : Result Tree Stop
  pub means : Means g input answer
  pub is : IsMeasured g input answer m
