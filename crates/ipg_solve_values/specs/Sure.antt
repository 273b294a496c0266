-- The value that a variable has in every solution of a formula in a box.
use Rattle.std.specs.Prelude.{◌≡◌, ℕ, ℤ, IsTrue, Option, Some, None}
use Rattle.ipg_lin.specs.Form.{Assignment}
use Rattle.ipg_lin.specs.Formula.{holds_at, LiesIn, Solvable}
use Rattle.ipg_lin.specs.declared.formula.Formula.{Formula}
use Rattle.ipg_lin.specs.declared.formula.Boxed.{Boxed}

-- there is a solution, and the variable has this value in all
pub record IsSure (formula : Formula) (box : Boxed) (x : ℕ) (value : ℤ) : Type 0 where
  pub some : Solvable formula box
  pub all : (values : Assignment) → LiesIn values box → IsTrue (holds_at values formula) → values x ≡ value

-- the value that it has in all, or that it has none
abbrev pub Tells : Formula → Boxed → ℕ → Option ℤ → Type 0
Tells formula box x (Some value) = IsSure formula box x value
Tells formula box x None = (value : ℤ) → ¬ IsSure formula box x value
