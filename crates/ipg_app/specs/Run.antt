-- What a run did: one of four cases.
use Rattle.std.specs.Prelude.{◌≡◌, ℕ, ◌⊎◌, List, Option}
use Rattle.ipg_outside.specs.Faults.{Rose}
use Rattle.ipg_outside.specs.Files.{Told}
use Rattle.ipg_outside.specs.Sink.{Output, Breaks, Tells}
use Rattle.ipg_app_text.specs.Said.{Said}
use Rattle.ipg_app_text.specs.Order.{Answers}
use Rattle.ipg_app.specs.Reply.{order_of}
use Rattle.ipg_app_text.specs.declared.status.Status.{Status}
use Rattle.ipg_app_text.specs.declared.status.Status.TheVariants as status
use Rattle.ipg_app_text.specs.Settles.{Settles}
use Rattle.ipg_app_tree.specs.Out.{Writes}

-- the outside at a moment
pub record Outside : Type 0 where
  pub told : List ℕ → Told
  pub read_faults : List ℕ → ℕ
  pub output : Option Output
  pub write_faults : ℕ

-- the whole text went out
pub record Ended (before after : Outside) (words : List (List ℕ)) (s : Status) : Type 0 where
  pub said : Said
  pub settled : Settles before.told before.read_faults after.read_faults (order_of words) said
  pub is : s ≡ said.status
  pub out : Tells before.output after.output (Writes said.text)

-- a prefix of the text went out, and the fault was counted
pub record FailsToWrite (before after : Outside) (words : List (List ℕ)) (s : Status) : Type 0 where
  pub said : Said
  pub settled : Settles before.told before.read_faults after.read_faults (order_of words) said
  pub is : s ≡ status.WriteFault
  pub rose : Rose before.write_faults after.write_faults
  pub out : Tells before.output after.output (Breaks said.text)

-- nothing went out
pub record OutOfMemory (before after : Outside) (s : Status) : Type 0 where
  pub is : s ≡ status.Memory
  pub out : after.output ≡ before.output

abbrev pub Runs : Outside → Outside → List (List ℕ) → Status → Type 0
Runs before after words s = Ended before after words s ⊎ (FailsToWrite before after words s ⊎ OutOfMemory before after s)

-- no count rose
pub record NoFault (before after : Outside) : Type 0 where
  pub reading : (name : List ℕ) → Rose (before.read_faults name) (after.read_faults name) → ⊥
  pub writing : Rose before.write_faults after.write_faults → ⊥

-- the reply went out
pub record Replied (before after : Outside) (words : List (List ℕ)) (s : Status) : Type 0 where
  pub said : Said
  pub answers : Answers before.told (order_of words) said
  pub is : s ≡ said.status
  pub out : Tells before.output after.output (Writes said.text)

-- where no count rises, the reply goes out, or memory is wanted
abbrev pub RepliesWithoutFault : Outside → Outside → List (List ℕ) → Status → Type 0
RepliesWithoutFault before after words s = NoFault before after → Replied before after words s ⊎ OutOfMemory before after s

-- where nothing fails, the status is the reply's, or memory was wanting
abbrev pub Surely : (List ℕ → Told) → List (List ℕ) → Status → Type 0
Surely told words s = ((said : Said) × Answers told (order_of words) said × (s ≡ said.status)) ⊎ (s ≡ status.Memory)
