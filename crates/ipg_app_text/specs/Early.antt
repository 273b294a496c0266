-- Ends before an answer: that is said, or, for want of memory, nothing.
use Rattle.std.specs.Prelude.{Result, Ok, Err, ⊤}
use Rattle.ipg_app_text.specs.declared.early.Early.{Early}
use Rattle.ipg_app_text.specs.declared.early.Early.TheVariants as early
use Rattle.ipg_app_text.specs.declared.reasons.Reason.{Reason}
use Rattle.ipg_app_text.specs.declared.said.Settled.{Settled}
use Rattle.ipg_app_text.specs.Lines.{said_of}
use Rattle.ipg_app_text.specs.Said.{Said}

-- what is said is so
abbrev pub SaysSo : {S : Type 0} → (S → Type 0) → Early S → Type 0
SaysSo Q (early.Said s) = Q s
SaysSo Q early.Memory = ⊤

-- the answer is so, or what is said in its stead is
abbrev pub AnswersOrSays : {A S : Type 0} → Result A (Early S) → (A → Type 0) → (S → Type 0) → Type 0
AnswersOrSays (Ok a) P Q = P a
AnswersOrSays (Err e) P Q = SaysSo Q e

-- the reason's words alone
abbrev pub of_reason : Early Reason → Early Settled
of_reason (early.Said reason) = early.Said reason.said
of_reason early.Memory = early.Memory

-- whichever is said is so
abbrev pub IsSaid : Result Settled (Early Settled) → (Said → Type 0) → Type 0
IsSaid result P = AnswersOrSays result (λ settled. P (said_of settled)) (λ settled. P (said_of settled))
