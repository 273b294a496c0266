-- Boxes with other bounds of a variable, and solutions that have values of it as are asked for.
use Rattle.std.specs.Prelude.{◌≡◌, ℕ, ℤ, ◌≤ℤ◌, IsTrue, Some, slice_get, slice_set}
use Rattle.ipg_lin.specs.Form.{Assignment}
use Rattle.ipg_lin.specs.Formula.{holds_at, LiesIn}
use Rattle.ipg_lin.specs.declared.formula.Formula.{Formula}
use Rattle.ipg_lin.specs.declared.formula.Boxed.{Boxed}

-- the box, but for the bounds of a variable
abbrev pub narrowed : Boxed → ℕ → ℤ → ℤ → Boxed
narrowed box x low high = record { bounds = slice_set box.bounds x (low, high) }

-- the value is within the bounds of the variable
abbrev pub IsWithin : Boxed → ℕ → ℤ → Type 0
IsWithin box x value = (low high : ℤ) → slice_get box.bounds x ≡ Some (low, high) → (low ≤ℤ value) × (value ≤ℤ high)

-- in some solution the variable has such a value
abbrev pub IsSolvedAt : Formula → Boxed → ℕ → (ℤ → Type 0) → Type 0
IsSolvedAt formula box x is_such = (values : Assignment) × LiesIn values box × IsTrue (holds_at values formula) × is_such (values x)
