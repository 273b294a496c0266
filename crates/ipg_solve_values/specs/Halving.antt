-- The least value of a variable in a solution, found by halving the range in which it is.
use Rattle.std.specs.Prelude.{◌≡◌, ℕ, ℤ, ◌≤ℤ◌, IsTrue, Some, slice_get}
use Rattle.ipg_lin.specs.Form.{Assignment}
use Rattle.ipg_lin.specs.Formula.{holds_at, assigned, LiesIn}
use Rattle.ipg_lin.specs.declared.formula.Formula.{Formula}
use Rattle.ipg_lin.specs.declared.formula.Boxed.{Boxed}
use Rattle.ipg_solve.specs.Decides.{Solves}
use Rattle.ipg_solve_values.specs.declared.halving.LeastRange.{LeastRange}

-- the values solve the formula, `high` is the value of x among them, and no solution has a value of x below `low`
pub record IsLeastRange (formula : Formula) (box : Boxed) (x : ℕ) (range : LeastRange) : Type 0 where
  pub solves : Solves formula box range.values
  pub high : assigned range.values x ≡ range.high
  pub low : (other : Assignment) → LiesIn other box → IsTrue (holds_at other formula) → range.low ≤ℤ other x
  pub within : (bounds : ℤ × ℤ) → slice_get box.bounds x ≡ Some bounds → bounds.0 ≤ℤ range.low
