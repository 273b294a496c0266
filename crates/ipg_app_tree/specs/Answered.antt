-- What is answered of an input, and what of it went into a sink.
use Rattle.std.specs.Prelude.{◌≡◌, ℕ, ◌<◌, List, length, get_or, Bool, true, false, Option, Result, Ok, Err}
use Rattle.ipg_core.specs.Grammar.{Grammar}
use Rattle.ipg_core.specs.Tree.{Tree}
use Rattle.ipg_core.specs.Run.{Stop, NoTree, OutOfRange}
use Rattle.ipg_core.specs.Meaning.{Means}
use Rattle.ipg_outside.specs.Sink.{Output}
use Rattle.ipg_tree.specs.Puts.{Whole, Part}
use Rattle.ipg_app_tree.specs.declared.show.Show.{Show}
use Rattle.ipg_app_tree.specs.Shown.{Shows, Misses}
use Rattle.ipg_app_tree.specs.declared.answering.Given.{Given}
use Rattle.ipg_app_tree.specs.declared.answering.Given.TheVariants as given
use Rattle.ipg_app_tree.specs.declared.answering.AnswerFault.{AnswerFault}
use Rattle.ipg_app_tree.specs.declared.answering.AnswerFault.TheVariants as fault

-- what is shown of the tree, all of it; or that it misses a place, or that there is none, and nothing is written
abbrev pub IsGiven : Show → Grammar → List ℕ → Result Tree Stop → Given → Option Output → ℕ → Option Output → ℕ → Type 0
IsGiven show g input answer given.Tree before counted after counts =
    (one : Tree) × (answer ≡ Ok one) × (text : List ℕ) × Shows show g input one text × Whole text before counted after counts
IsGiven show g input answer (given.Gap at) before counted after counts =
    (one : Tree) × (answer ≡ Ok one) × Misses show input one at × (after ≡ before) × (counts ≡ counted)
IsGiven show g input answer given.NoTree before counted after counts = (answer ≡ Err NoTree) × (after ≡ before) × (counts ≡ counted)
IsGiven show g input answer given.Range before counted after counts = (answer ≡ Err OutOfRange) × (after ≡ before) × (counts ≡ counted)

-- what is given is what the grammar means on the input
pub record Answers (show : Show) (g : Grammar) (input : List ℕ) (given : Given) (before : Option Output) (counted : ℕ) (after : Option Output) (counts : ℕ)
    : Type 0 where
  pub answer : Result Tree Stop
  pub means : Means g input answer
  pub is : IsGiven show g input answer given before counted after counts

-- a prefix of what is shown of the tree
pub record BreaksOff (show : Show) (g : Grammar) (input : List ℕ) (before : Option Output) (counted : ℕ) (after : Option Output) (counts : ℕ) : Type 0 where
  pub tree : Tree
  pub means : Means g input (Ok tree)
  pub text : List ℕ
  pub shows : Shows show g input tree text
  pub part : Part text before counted after counts

-- for want of memory nothing is written
abbrev pub Fails : Show → Grammar → List ℕ → AnswerFault → Option Output → ℕ → Option Output → ℕ → Type 0
Fails show g input fault.Memory before counted after counts = after ≡ before
Fails show g input fault.Write before counted after counts = BreaksOff show g input before counted after counts

-- a text was taken, or broken off; or nothing of it was written for want of memory
abbrev pub PutsText : Result Given AnswerFault → List ℕ → Option Output → ℕ → Option Output → ℕ → Type 0
PutsText (Ok value) text before counted after counts = (value ≡ given.Tree) × Whole text before counted after counts
PutsText (Err fault.Memory) text before counted after counts = after ≡ before
PutsText (Err fault.Write) text before counted after counts = Part text before counted after counts

-- what is shown of a tree was taken, or broken off; or it misses a place, or memory was wanting, and nothing was written
abbrev pub PutsTree : Show → Grammar → List ℕ → Tree → Result Given AnswerFault → Option Output → ℕ → Option Output → ℕ → Type 0
PutsTree show g input one (Ok value) before counted after counts = IsGiven show g input (Ok one) value before counted after counts
PutsTree show g input one (Err fault.Memory) before counted after counts = after ≡ before
PutsTree show g input one (Err fault.Write) before counted after counts =
    (text : List ℕ) × Shows show g input one text × Part text before counted after counts

-- of a list that says of each place whether it is bare: none is
abbrev pub NoneIsBare : List Bool → Type 0
NoneIsBare bare = (place : ℕ) → place < length bare → get_or bare place true ≡ false

-- or this is the first
pub record IsFirstBare (bare : List Bool) (at : ℕ) : Type 0 where
  pub within : at < length bare
  pub is : get_or bare at true ≡ true
  pub before : (place : ℕ) → place < at → get_or bare place true ≡ false
