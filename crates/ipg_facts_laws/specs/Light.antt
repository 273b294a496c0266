-- The formula of a gap is within the limits of linear forms, and its bounds are in order.
use Rattle.std.specs.Prelude.{◌≡◌, ℕ, Bool, true, List, length, nat_le, ◌&&◌, ℤ, ◌≤ℤ◌, slice_get, Some}
use Rattle.ipg_lin.specs.Form.{are_coefficients}
use Rattle.ipg_lin.specs.Formula.{every}
use Rattle.ipg_lin.specs.declared.formula.Formula.{Formula, fold-Formula}
use Rattle.ipg_lin.specs.declared.formula.Formula.TheOpen.{Formula-F}
use Rattle.ipg_core.specs.Grammar.{Grammar}
use Rattle.ipg_core.specs.MustTouch.{Marks}
use Rattle.ipg_facts.specs.Gap.{gap}

abbrev pub light_step : Formula-F Bool → Bool
light_step (Formula-F.Atom form) = nat_le (length form.terms) 64 && are_coefficients form.terms
light_step (Formula-F.All members) = every members
light_step (Formula-F.Any members) = every members

-- each form has 64 terms at most, with factors of 2^40 in size at most, and none is 0
abbrev pub is_light : Formula → Bool
is_light = fold-Formula Bool light_step

-- the formula of a gap is such
abbrev pub GapsAreLight : Type 0
GapsAreLight = (g : Grammar) (marks : Marks) (rule alt : ℕ) → is_light (gap g marks rule alt).0 ≡ true

-- no variable's least value is above its greatest
abbrev pub AreOrdered : List (ℤ × ℤ) → Type 0
AreOrdered bounds = (x : ℕ) (low high : ℤ) → slice_get bounds x ≡ Some (low, high) → low ≤ℤ high

-- the bounds of a gap are such
abbrev pub GapsAreOrdered : Type 0
GapsAreOrdered = (g : Grammar) (marks : Marks) (rule alt : ℕ) → AreOrdered (gap g marks rule alt).1.bounds
