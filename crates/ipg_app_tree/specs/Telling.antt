-- What functions promise each other of answers that are told one after another.
use Rattle.std.specs.Prelude.{◌≡◌, ℕ, ◌+◌, List, [], ◌∷◌, ◌++◌, codes, Result, Ok, Err}
use Rattle.ipg_core.specs.Grammar.{Grammar}
use Rattle.ipg_core.specs.Grown.{IsInput}
use Rattle.ipg_core.specs.Run.{Stop, NoTree, OutOfRange}
use Rattle.ipg_core.specs.Total.{Total}
use Rattle.ipg_core.specs.Tree.{Tree}
use Rattle.ipg_mach_moves.specs.Moves.{Key}
use Rattle.ipg_table.specs.Rows.{StandFor}
use Rattle.ipg_edit.specs.Session.{Seen, Knows, Shows}
use Rattle.ipg_edit.specs.declared.session.Answer.{Answer}
use Rattle.ipg_edit.specs.declared.session.Answer.TheVariants as answer
use Rattle.ipg_edit_script.specs.declared.script.Edit.{Edit}
use Rattle.ipg_app_tree.specs.declared.telling.Told.{Told}
use Rattle.ipg_app_tree.specs.declared.telling.EditsFault.{EditsFault}
use Rattle.ipg_app_tree.specs.declared.telling.EditsFault.TheVariants.{OutOfInput, Memory}
use Rattle.ipg_app_tree.specs.Editing.{Turns, EditsSay, answer_line, tree_of, kept_behind, before}

-- a session by a grammar by which parsing ends knows right answers of these keys on its input
pub record Ready (g : Grammar) (kept : List Key) (s : Seen) : Type 0 where
  pub knows : Knows g kept s
  pub total : Total g
  pub input : IsInput s.input

abbrev pub words_by : Answer → List ℕ
words_by (answer.Tree counts) = codes "tree"
words_by (answer.NoTree counts) = codes "no parse"
words_by (answer.Range counts) = codes "range"

-- what was given is the answer, and its tree is shown, where it is one
abbrev pub IsShown : Answer → Result Tree Stop → Seen → Type 0
IsShown (answer.Tree counts) means s = (one : Tree) × (means ≡ Ok one) × Shows one s
IsShown (answer.NoTree counts) means s = means ≡ Err NoTree
IsShown (answer.Range counts) means s = means ≡ Err OutOfRange

-- the line of an answer stands behind the others
pub record IsTold (g : Grammar) (k : ℕ) (kept : List Key) (given : Answer) (old new : Seen) (lines more : List ℕ) : Type 0 where
  pub answer : Result Tree Stop
  pub keys : List Key
  pub turns : Turns g old.input kept answer keys
  pub line : more ≡ lines ++ answer_line k answer keys
  pub shown : IsShown given answer new
  pub ready : Ready g (kept_behind answer keys kept) new

-- an answer was told and an edit made: what may be said from there on may be said behind the line from here on
pub record GoesOn (g : Grammar) (k : ℕ) (kept : List Key) (edit : Edit) (old new : Seen) (lines more : List ℕ) : Type 0 where
  pub later : List Key
  pub ready : Ready g later new
  pub line : List ℕ
  pub is : more ≡ lines ++ line
  pub leads : (edits : List Edit) (rest : Result (List ℕ) ℕ) → EditsSay g (k + 1) new.input later edits rest
      → EditsSay g k old.input kept (edit ∷ edits) (before line rest)

-- or it is out of input, whatever edits there are behind it
abbrev pub Steps : Result (Unit {0}) EditsFault → Grammar → ℕ → List Key → Edit → (old new : Seen) → (lines more : List ℕ) → Type 0
Steps (Ok done) g k kept edit old new lines more = GoesOn g k kept edit old new lines more
Steps (Err (OutOfInput at)) g k kept edit old new lines more =
    (at ≡ k) × ((edits : List Edit) → EditsSay g k old.input kept (edit ∷ edits) (Err k))
Steps (Err Memory) g k kept edit old new lines more = Unit {0}

-- the lines of all answers, and the tree of the last, which is shown
pub record AreTold (g : Grammar) (edits : List Edit) (told : Told) (old new : Seen) : Type 0 where
  pub answer : Result Tree Stop
  pub say : EditsSay g 0 old.input [] edits (Ok (told.lines.items ++ tree_of g answer))
  pub shown : IsShown told.last answer new
  pub stand : StandFor new.tables g

abbrev pub TellsAll : Result Told EditsFault → Grammar → List Edit → (old new : Seen) → Type 0
TellsAll (Ok told) g edits old new = AreTold g edits told old new
TellsAll (Err (OutOfInput at)) g edits old new = EditsSay g 0 old.input [] edits (Err at)
TellsAll (Err Memory) g edits old new = Unit {0}
