-- When a formula holds, and when a box has an assignment that makes it hold.
use Rattle.std.specs.Prelude.{ℕ, max, Bool, true, false, ◌&&◌, ◌||◌, IsTrue, ℤ, pos, ◌≤ℤ◌, int_le, List, [], ◌∷◌, slice_get, unwrap_or, Some, ◌≡◌}
use Rattle.ipg_lin.specs.Form.{Assignment, value_at, terms_width}
use Rattle.ipg_lin.specs.declared.formula.Formula.{Formula}
use Rattle.ipg_lin.specs.declared.formula.Formula.TheOpen.{Formula-F}
use Rattle.ipg_lin.specs.declared.formula.Formula.TheOpen.Formula-F.{Atom, All, Any}
use Rattle.ipg_lin.specs.declared.formula.Formula.TheFolds.{fold-Formula}
use Rattle.ipg_lin.specs.declared.formula.Boxed.{Boxed}

abbrev pub every : List Bool → Bool
every [] = true
every (b ∷ bs) = b && every bs

abbrev pub some : List Bool → Bool
some [] = false
some (b ∷ bs) = b || some bs

-- an atom holds where its form is at most 0, All where every member holds, Any where some member holds
abbrev pub holds_step : Assignment → Formula-F Bool → Bool
holds_step values (Atom form) = int_le (value_at values form) (pos 0)
holds_step values (All members) = every members
holds_step values (Any members) = some members

abbrev pub holds_at : Assignment → Formula → Bool
holds_at values = fold-Formula Bool (holds_step values)

abbrev pub greatest : List ℕ → ℕ
greatest [] = 0
greatest (n ∷ ns) = max n (greatest ns)

-- every variable of the formula is below this number, and the number is the least such
abbrev pub width_step : Formula-F ℕ → ℕ
width_step (Atom form) = terms_width form.terms
width_step (All members) = greatest members
width_step (Any members) = greatest members

abbrev pub width : Formula → ℕ
width = fold-Formula ℕ width_step

-- variable x has the value that stands at x, and 0 behind the last
abbrev pub assigned : List ℤ → Assignment
assigned values x = unwrap_or (slice_get values x) (pos 0)

-- each variable is within its bounds
abbrev pub LiesIn : Assignment → Boxed → Type 0
LiesIn values box =
    (x : ℕ) (low high : ℤ) → slice_get box.bounds x ≡ Some (low, high) → (low ≤ℤ values x) × (values x ≤ℤ high)

-- some assignment in the box makes the formula hold
abbrev pub Solvable : Formula → Boxed → Type 0
Solvable formula box = (values : Assignment) × LiesIn values box × IsTrue (holds_at values formula)
