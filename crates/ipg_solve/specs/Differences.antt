-- Formulas that speak of differences alone, and decisions that are short.
use Rattle.std.specs.Prelude.{◌≡◌, ℕ, ◌+◌, ◌≤◌, Bool, true, false, ◌&&◌, ◌||◌, IsTrue, ℤ, pos, negsuc, List, [], ◌∷◌, length}
use Rattle.std.specs.Ordering.{int_eq}
use Rattle.ipg_lin.specs.Formula.{every}
use Rattle.ipg_lin.specs.declared.formula.Formula.{Formula}
use Rattle.ipg_lin.specs.declared.formula.Formula.TheOpen.{Formula-F}
use Rattle.ipg_lin.specs.declared.formula.Formula.TheOpen.Formula-F.{Atom, All, Any}
use Rattle.ipg_lin.specs.declared.formula.Formula.TheFolds.{fold-Formula}
use Rattle.ipg_cert.specs.declared.refutation.Step.TheVariants.{Combine}
use Rattle.ipg_solve.specs.declared.decision.Decision.{Decision}
use Rattle.ipg_solve.specs.declared.decision.Decision.TheVariants.{Solution, Refuted}

abbrev pub is_one : ℤ → Bool
is_one z = int_eq z (pos 1)

abbrev pub is_minus_one : ℤ → Bool
is_minus_one z = int_eq z (negsuc 0)

-- no variable; or x or -x alone; or x - y
abbrev pub is_difference : List (ℕ × ℤ) → Bool
is_difference [] = true
is_difference (term ∷ []) = is_one term.1 || is_minus_one term.1
is_difference (term ∷ other ∷ []) = (is_one term.1 && is_minus_one other.1) || (is_minus_one term.1 && is_one other.1)
is_difference (term ∷ other ∷ third ∷ terms) = false

-- an atom whose form is a difference and a constant, or an All of formulas of differences
abbrev pub differences_step : Formula-F Bool → Bool
differences_step (Atom form) = is_difference form.terms
differences_step (All members) = every members
differences_step (Any members) = false

abbrev pub are_differences : Formula → Bool
are_differences = fold-Formula Bool differences_step

abbrev pub IsDifference : Formula → Type 0
IsDifference formula = IsTrue (are_differences formula)

-- a solution, or a refutation that is one Combine of at most one fact more than there are variables
abbrev pub IsShort : ℕ → Decision → Type 0
IsShort vars (Solution values) = Unit {0}
IsShort vars (Refuted r) = (entries : List (ℕ × ℕ)) × (r.steps ≡ Combine entries ∷ []) × (length entries ≤ vars + 1)
