-- What holds of values that a variable has in every solution.
use Rattle.std.specs.Prelude.{◌≡◌, ℕ, ℤ, Option}
use Rattle.ipg_lin.specs.declared.formula.Formula.{Formula}
use Rattle.ipg_lin.specs.declared.formula.Boxed.{Boxed}
use Rattle.ipg_solve_values.specs.Sure.{Tells}

-- one thing is told of a variable
abbrev pub TellsOnce : Type 0
TellsOnce = (formula : Formula) (box : Boxed) (x : ℕ) (one other : Option ℤ) → Tells formula box x one → Tells formula box x other → one ≡ other
