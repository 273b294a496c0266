-- More is known of an answer, or of what is said in its stead.
use Rattle.std.proofs.Common.{◌≡◌, Result, Ok, Err, sym, subst, IsErrAnd}
use Rattle.std.proofs.lemmas.Result.{err_from_is_err_and}
use Rattle.ipg_app_text.specs.declared.early.Early.{Early}
use Rattle.ipg_app_text.specs.declared.early.Early.TheVariants as early
use Rattle.ipg_app_text.specs.declared.reasons.Reason as code
use Rattle.ipg_app_text.specs.declared.said.Settled.{Settled}
use Rattle.ipg_app_text.specs.Early.{SaysSo, AnswersOrSays, IsSaid, of_reason}
use Rattle.ipg_app_text.specs.Lines.{said_of}
use Rattle.ipg_app_text.specs.Said.{Said}

says_on : {S : Type 0} (e : Early S) (P Q : S → Type 0) → ((s : S) → P s → Q s) → SaysSo P e → SaysSo Q e
says_on (early.Said s) P Q f h = f s h
says_on early.Memory P Q f h = tt

pub answers_on : {A S : Type 0} (r : Result A (Early S)) (P R : A → Type 0) (Q T : S → Type 0) → ((a : A) → P a → R a) → ((s : S) → Q s → T s)
    → AnswersOrSays r P Q → AnswersOrSays r R T
answers_on (Ok a) P R Q T f g h = f a h
answers_on (Err e) P R Q T f g h = says_on e Q T g h

-- what `?` hands on
pub exits_on : {A S : Type 0} (r : Result A (Early S)) (e : Early S) (R : A → Type 0) (P Q : S → Type 0) → IsErrAnd r (λ y. y ≡ e)
    → ((s : S) → P s → Q s) → SaysSo P e → AnswersOrSays r R Q
exits_on r e R P Q is f h =
    let p = err_from_is_err_and r is in
    subst (λ r. AnswersOrSays r R Q) (sym p.1) (subst (SaysSo Q) (sym p.2) (says_on e P Q f h))

of_reason_on : (e : Early code.Reason) (P : code.Reason → Type 0) (Q : Settled → Type 0) → ((r : code.Reason) → P r → Q r.said) → SaysSo P e
    → SaysSo Q (of_reason e)
of_reason_on (early.Said r) P Q f h = f r h
of_reason_on early.Memory P Q f h = tt

-- the same of a reason whose words alone are handed on
pub reason_exits_on : {A : Type 0} (r : Result A (Early Settled)) (e : Early code.Reason) (R : A → Type 0) (P : code.Reason → Type 0) (Q : Settled → Type 0)
    → IsErrAnd r (λ y. y ≡ of_reason e) → ((r : code.Reason) → P r → Q r.said) → SaysSo P e → AnswersOrSays r R Q
reason_exits_on r e R P Q is f h =
    let p = err_from_is_err_and r is in
    subst (λ r. AnswersOrSays r R Q) (sym p.1) (subst (SaysSo Q) (sym p.2) (of_reason_on e P Q f h))

-- ---- of what is said either way

pub said_on : (r : Result Settled (Early Settled)) (P Q : Said → Type 0) → ((said : Said) → P said → Q said) → IsSaid r P → IsSaid r Q
said_on r P Q f h =
    answers_on r (λ s. P (said_of s)) (λ s. Q (said_of s)) (λ s. P (said_of s)) (λ s. Q (said_of s)) (λ s. f (said_of s)) (λ s. f (said_of s)) h

pub said_exits : (r : Result Settled (Early Settled)) (e : Early Settled) (P Q : Said → Type 0) → IsErrAnd r (λ y. y ≡ e)
    → ((said : Said) → P said → Q said) → SaysSo (λ s. P (said_of s)) e → IsSaid r Q
said_exits r e P Q is f h = exits_on r e (λ s. Q (said_of s)) (λ s. P (said_of s)) (λ s. Q (said_of s)) is (λ s. f (said_of s)) h
