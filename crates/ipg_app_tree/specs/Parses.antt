-- What is said of the parse of an input.
use Rattle.std.specs.Prelude.{◌≡◌, ℕ, List, Result, Ok, Err}
use Rattle.ipg_core.specs.Grammar.{Grammar}
use Rattle.ipg_core.specs.Tree.{Tree}
use Rattle.ipg_core.specs.Run.{Stop, NoTree, OutOfRange, Deep}
use Rattle.ipg_core.specs.Meaning.{Means}
use Rattle.ipg_app_tree.specs.declared.show.Show.{Show}
use Rattle.ipg_app_text.specs.Said.{Said, no_parse, range}
use Rattle.ipg_app_tree.specs.Shown.{TreeSays}

-- what is said of a parse, by what is to be shown of a tree; nothing of one that has no answer
abbrev pub ParseSays : Show → Grammar → List ℕ → Result Tree Stop → Said → Type 0
ParseSays show g input (Ok tree) said = TreeSays show g input tree said
ParseSays show g input (Err NoTree) said = said ≡ no_parse
ParseSays show g input (Err OutOfRange) said = said ≡ range
ParseSays show g input (Err Deep) said = ⊥

-- what is said of the parse of an input by a grammar
pub record Parses (show : Show) (g : Grammar) (input : List ℕ) (said : Said) : Type 0 where
  pub answer : Result Tree Stop
  pub means : Means g input answer
  pub is : ParseSays show g input answer said
