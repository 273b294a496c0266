-- What is to be said, by what is told of files and by the faults of reading.
use Rattle.std.specs.Prelude.{◌≡◌, ℕ, ◌⊎◌, List}
use Rattle.ipg_outside.specs.Faults.{Rose}
use Rattle.ipg_outside.specs.Files.{Told}
use Rattle.ipg_app_text.specs.Said.{Said, read_fault}
use Rattle.ipg_app_text.specs.Order.{Order, Answers, Turn}

-- a reading failed, of a name whose turn had come, and the fault was counted
pub record FailsToRead (told : List ℕ → Told) (before after : List ℕ → ℕ) (order : Order) (said : Said) : Type 0 where
  pub name : List ℕ
  pub turn : Turn told order name
  pub rose : Rose (before name) (after name)
  pub is : said ≡ read_fault

-- what is to be said, by what is told and by the faults of this call
abbrev pub Settles : (List ℕ → Told) → (List ℕ → ℕ) → (List ℕ → ℕ) → Order → Said → Type 0
Settles told before after order said = Answers told order said ⊎ FailsToRead told before after order said
