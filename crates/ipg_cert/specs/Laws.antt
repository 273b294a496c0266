-- What a refutation is worth, and what sums of forms come to.
use Rattle.std.specs.Prelude.{◌≡◌, ℕ, true, pos, ◌+ℤ◌, ◌*ℤ◌, int_lt, Some}
use Rattle.ipg_lin.specs.Form.{Form}
use Rattle.ipg_lin.specs.declared.formula.Formula.{Formula}
use Rattle.ipg_lin.specs.declared.formula.Boxed.{Boxed}
use Rattle.ipg_lin.specs.Formula.{Solvable}
use Rattle.ipg_cert.specs.declared.refutation.Refutation.{Refutation}
use Rattle.ipg_cert.specs.Checks.{coefficient, plus_times, is_absurd, checks}

-- one that checks leaves no assignment in the box that makes the formula hold
abbrev pub ChecksRefute : Type 0
ChecksRefute = (f : Formula) (box : Boxed) (r : Refutation) → checks f box r ≡ true → ¬ Solvable f box

-- w times a form, and another one, take a variable w times as often as the form does, and as often as the other
abbrev pub SumTakes : Type 0
SumTakes = (x w : ℕ) (form rest : Form) → coefficient x (plus_times w form rest).terms ≡ (pos w *ℤ coefficient x form.terms) +ℤ coefficient x rest.terms

-- a form that takes no variable, and whose constant is above 0, is never at most 0
abbrev pub CancelledIsAbsurd : Type 0
CancelledIsAbsurd = (form : Form) → ((x : ℕ) → coefficient x form.terms ≡ pos 0) → int_lt (pos 0) form.constant ≡ true → is_absurd (Some form) ≡ true
