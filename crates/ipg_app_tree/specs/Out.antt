-- What goes out of what is said.
use Rattle.std.specs.Prelude.{◌≡◌, ℕ, ◌⊎◌, List, [], ◌++◌, Option}
use Rattle.ipg_outside.specs.Faults.{Rose}
use Rattle.ipg_outside.specs.Sink.{Output, given, Breaks, Tells}
use Rattle.ipg_app_text.specs.Said.{Said}
use Rattle.ipg_app_text.specs.declared.status.Status.{Status}
use Rattle.ipg_app_text.specs.declared.status.Status.TheVariants as status
use Rattle.ipg_app_tree.specs.declared.answering.AnswerFault.{AnswerFault}
use Rattle.ipg_app_tree.specs.declared.answering.AnswerFault.TheVariants as fault

-- exactly this text went out
pub record Writes (text : List ℕ) (before after : Output) : Type 0 where
  pub all : after.written ≡ given before ++ text
  pub none_held : after.held ≡ []

-- all of what is said, or a prefix before a fault that was counted
abbrev pub GoesOut : Said → Option Output → ℕ → Option Output → ℕ → Status → Type 0
GoesOut said before counted after counts s =
    ((s ≡ said.status) × Tells before after (Writes said.text)) ⊎ ((s ≡ status.WriteFault) × Rose counted counts × Tells before after (Breaks said.text))

-- one of these; or nothing, for want of memory
abbrev pub Replies : (Said → Type 0) → Option Output → ℕ → Option Output → ℕ → Status → Type 0
Replies P before counted after counts s =
    ((said : Said) × P said × GoesOut said before counted after counts s) ⊎ ((s ≡ status.Memory) × (after ≡ before))

abbrev pub fault_status : AnswerFault → Status
fault_status fault.Memory = status.Memory
fault_status fault.Write = status.WriteFault
