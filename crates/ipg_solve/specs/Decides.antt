-- What a decision says of a formula in a box.
use Rattle.std.specs.Prelude.{◌≡◌, ◌↔◌, ℤ, Bool, true, false, IsTrue, List, length}
use Rattle.ipg_lin.specs.Formula.{holds_at, assigned, LiesIn, Solvable}
use Rattle.ipg_lin.specs.declared.formula.Formula.{Formula}
use Rattle.ipg_lin.specs.declared.formula.Boxed.{Boxed}
use Rattle.ipg_cert.specs.Checks.{checks}
use Rattle.ipg_solve.specs.declared.decision.Decision.{Decision}
use Rattle.ipg_solve.specs.declared.decision.Decision.TheVariants.{Solution, Refuted}

-- a value for each variable, within its bounds, and under these values the formula holds
abbrev pub Solves : Formula → Boxed → List ℤ → Type 0
Solves formula box values = (length values ≡ length box.bounds) × LiesIn (assigned values) box × IsTrue (holds_at (assigned values) formula)

-- the values solve the formula, or the refutation checks
abbrev pub Decides : Formula → Boxed → Decision → Type 0
Decides formula box (Solution values) = Solves formula box values
Decides formula box (Refuted r) = IsTrue (checks formula box r)

abbrev pub is_solution : Decision → Bool
is_solution (Solution values) = true
is_solution (Refuted r) = false

-- a solution is given exactly where there is one
abbrev pub IsExact : Formula → Boxed → Decision → Type 0
IsExact formula box decision = IsTrue (is_solution decision) ↔ Solvable formula box
