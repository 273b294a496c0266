-- What inputs come to by a grammar: a status and rows for each.
use Rattle.std.specs.Prelude.{◌≡◌, ℕ, ◌<◌, ◌^◌, List, [], ◌∷◌, ◌++◌, length, Result, Ok, Err}
use Rattle.ipg_core.specs.Grammar.{Grammar}
use Rattle.ipg_core.specs.Meaning.{Means}
use Rattle.ipg_core.specs.Run.{Stop, NoTree, OutOfRange, Deep}
use Rattle.ipg_core.specs.Tree.{Tree}
use Rattle.ipg_tree_rows.specs.declared.row.TreeRow.{TreeRow}
use Rattle.ipg_tree_rows.specs.Rows.{rows_of}
use Rattle.ipg_app_text.specs.declared.status.Status.{Status}
use Rattle.ipg_app_text.specs.declared.status.Status.TheVariants as status
use Rattle.ipg_app_text.specs.Code.{code_of}
use Rattle.ipg_c_trees.specs.declared.answering.Answer.{Answer}

-- one input: its tree's rows; or that it has none, that a value left 64 bits, that it has more than 2^30 bytes; or want of memory
pub data Comes (g : Grammar) (input : List ℕ) : Status → List TreeRow → Type 0 where
  ATree : (one : Tree) → Means g input (Ok one) → Comes g input status.Done (rows_of one)
  NoTree_ : Means g input (Err NoTree) → Comes g input status.NoParse []
  Range_ : Means g input (Err OutOfRange) → Comes g input status.Range []
  Large : 2 ^ 30 < length input → Comes g input status.TooLarge []
  Wanting : Comes g input status.Memory []

-- its answer: the code of its status, and how many rows it has
pub record IsAnswer (g : Grammar) (input : List ℕ) (answer : Answer) (rows : List TreeRow) : Type 0 where
  pub status : Status
  pub comes : Comes g input status rows
  pub code : answer.status ≡ code_of status
  pub count : answer.rows ≡ length rows

-- inputs one after another, with the rows of each behind those of the one before
abbrev pub AllCome : Grammar → List (List ℕ) → List Answer → List TreeRow → Type 0
AllCome g [] [] rows = rows ≡ []
AllCome g (input ∷ inputs) (answer ∷ answers) rows =
    (own : List TreeRow) × (more : List TreeRow) × IsAnswer g input answer own × AllCome g inputs answers more × (rows ≡ own ++ more)
AllCome g [] (answer ∷ answers) rows = ⊥
AllCome g (input ∷ inputs) [] rows = ⊥
