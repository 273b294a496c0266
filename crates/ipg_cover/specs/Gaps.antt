-- What functions inside the crate promise each other.
use Rattle.std.specs.Prelude.{◌≡◌, ℤ, ◌≤ℤ◌, IsTrue}
use Rattle.ipg_lin.specs.Form.{Assignment}
use Rattle.ipg_lin.specs.declared.formula.Formula.{Formula}
use Rattle.ipg_lin.specs.declared.formula.Boxed.{Boxed}
use Rattle.ipg_cert.specs.Checks.{checks}
use Rattle.ipg_solve_values.specs.Narrowed.{narrowed}
use Rattle.ipg_facts_laws.specs.Laws.{Solves}
use Rattle.ipg_cover.specs.Cover.{IsLeastGap}
use Rattle.ipg_cover.specs.declared.least.LeastGap.{LeastGap}
use Rattle.ipg_cover.specs.declared.least.LeastGap.TheVariants.{Refuted, Gap}

-- a box in which the length of the part is fixed
abbrev pub fixed : Boxed → ℤ → Boxed
fixed box eoi = narrowed box 0 eoi eoi

-- some solution has this length, and none a lesser one
pub record IsLeastLength (part : Formula × Boxed) (eoi : ℤ) : Type 0 where
  pub values : Assignment
  pub solves : Solves values part
  pub length_is : values 0 ≡ eoi
  pub least : (other : Assignment) → Solves other part → eoi ≤ℤ other 0

-- a refutation that checks, or the least gap
abbrev pub TellsGap : Formula × Boxed → LeastGap → Type 0
TellsGap part (Refuted r) = IsTrue (checks part.0 part.1 r)
TellsGap part (Gap at eoi) = IsLeastGap part at eoi
