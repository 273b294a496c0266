-- Values that solve a formula in a box, of which one variable has the least value that it has in any solution.
use Rattle.std.specs.Prelude.{ℕ, ℤ, ◌≤ℤ◌, IsTrue, List}
use Rattle.ipg_lin.specs.Form.{Assignment}
use Rattle.ipg_lin.specs.Formula.{holds_at, assigned, LiesIn}
use Rattle.ipg_lin.specs.declared.formula.Formula.{Formula}
use Rattle.ipg_lin.specs.declared.formula.Boxed.{Boxed}
use Rattle.ipg_cert.specs.Checks.{checks}
use Rattle.ipg_solve.specs.declared.decision.Decision.{Decision}
use Rattle.ipg_solve.specs.declared.decision.Decision.TheVariants.{Solution, Refuted}
use Rattle.ipg_solve.specs.Decides.{Solves}

pub record IsLeast (formula : Formula) (box : Boxed) (x : ℕ) (values : List ℤ) : Type 0 where
  pub solves : Solves formula box values
  pub least : (other : Assignment) → LiesIn other box → IsTrue (holds_at other formula) → assigned values x ≤ℤ other x

-- the solution with the least value of x, or a refutation that checks
abbrev pub Settles : Formula → Boxed → ℕ → Decision → Type 0
Settles formula box x (Solution values) = IsLeast formula box x values
Settles formula box x (Refuted r) = IsTrue (checks formula box r)
