-- What a caller gets of trees and names: what a grammar makes of its inputs, or that it is refused, or want of memory.
use Rattle.std.specs.Prelude.{◌≡◌, ℕ, List, length}
use Rattle.ipg_core.specs.Grammar.{Grammar}
use Rattle.ipg_tree_rows.specs.declared.row.TreeRow.{TreeRow}
use Rattle.ipg_app_text.specs.Code.{code_of}
use Rattle.ipg_app_text.specs.declared.status.Status.TheVariants as status
use Rattle.ipg_c_trees.specs.declared.answering.Answer.{Answer}
use Rattle.ipg_c_trees.specs.Given.{IsAccepted, IsRefused, text_of}
use Rattle.ipg_c_trees.specs.Comes.{AllCome}
use Rattle.ipg_c_trees.specs.Names.{names_of}
use Rattle.ipg_c.specs.Shown.{shown}

-- by the grammar that is given the inputs come to these answers and rows
pub record IsBatch (given : List ℕ) (inputs : List (List ℕ)) (answers : List Answer) (rows : List TreeRow) : Type 0 where
  pub grammar : Grammar
  pub accepted : IsAccepted (text_of given) grammar
  pub come : AllCome grammar inputs answers rows

-- these are the names of the grammar that is given
pub record IsNames (given text : List ℕ) : Type 0 where
  pub grammar : Grammar
  pub accepted : IsAccepted (text_of given) grammar
  pub is : text ≡ names_of grammar

-- nothing is told
pub record Untold {A : Type 0} (before after : List A) (long : ℕ) : Type 0 where
  pub same : after ≡ before
  pub none : long ≡ 0

-- the answers and the rows, as far as there is room for them, and how many rows there are
pub record Whole (given : List ℕ) (inputs : List (List ℕ)) (before after : List Answer) (room told : List TreeRow) (long : ℕ) : Type 0 where
  pub answers : List Answer
  pub rows : List TreeRow
  pub is : IsBatch given inputs answers rows
  pub answered : after ≡ shown answers before
  pub rowed : told ≡ shown rows room
  pub count : long ≡ length rows

pub data Rowed (given : List ℕ) (inputs : List (List ℕ)) (before after : List Answer) (room told : List TreeRow) (long code : ℕ) : Type 0 where
  Trees : Whole given inputs before after room told long → code ≡ code_of status.Done → Rowed given inputs before after room told long code
  NoGrammar : IsRefused (text_of given) → after ≡ before → Untold room told long → code ≡ code_of status.Refused
      → Rowed given inputs before after room told long code
  NoMemory : after ≡ before → Untold room told long → code ≡ code_of status.Memory → Rowed given inputs before after room told long code

-- the names, as far as there is room for them, and how long their text is
pub record Listed (given room told : List ℕ) (long : ℕ) : Type 0 where
  pub text : List ℕ
  pub is : IsNames given text
  pub shows : told ≡ shown text room
  pub count : long ≡ length text

pub data Named (given room told : List ℕ) (long code : ℕ) : Type 0 where
  Names : Listed given room told long → code ≡ code_of status.Done → Named given room told long code
  NoGrammar_ : IsRefused (text_of given) → Untold room told long → code ≡ code_of status.Refused → Named given room told long code
  NoMemory_ : Untold room told long → code ≡ code_of status.Memory → Named given room told long code
