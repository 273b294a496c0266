-- A site and the conditions of a call, as the code has them.
use Rattle.std.specs.Prelude.{◌≡◌, ◌≤◌, ℤ, List, length, Option, None, Some}
use Rattle.ipg_lin.specs.Formula.{width, Solvable}
use Rattle.ipg_lin.specs.declared.formula.Formula.{Formula}
use Rattle.ipg_lin.specs.declared.formula.Boxed.{Boxed}
use Rattle.ipg_solve.specs.Decides.{Solves}
use Rattle.ipg_app_values.specs.declared.names.CallSite as code
use Rattle.ipg_app_values.specs.declared.values.Conditions.{Conditions}
use Rattle.ipg_app_values.specs.Names.{CallSite}
use Rattle.ipg_app_values.specs.Notes.{on_length}

abbrev pub site_of : code.CallSite → CallSite
site_of s = record { written = s.written.now; core = s.core.now; edge = s.edge }

-- values that solve the formula, or that there are none
abbrev pub IsFound : Formula → Boxed → Option (List ℤ) → Type 0
IsFound formula box (Some values) = Solves formula box values
IsFound formula box None = ¬ Solvable formula box

pub record AreSound (c : Conditions) : Type 0 where
  pub bounded : width c.formula ≤ length c.bounds.bounds
  pub found : IsFound c.formula c.bounds c.found

-- those of a part, where it has this length
pub record AreOf (part : Formula × Boxed) (eoi : ℤ) (c : Conditions) : Type 0 where
  pub formula : c.formula ≡ part.0
  pub bounds : c.bounds ≡ on_length part.1 eoi
  pub sound : AreSound c
