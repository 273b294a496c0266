-- Several conditions at one length of the part: variable 0 is shared, all others are apart.
use Rattle.std.specs.Prelude.{ℕ, zero, suc, ◌+◌, ◌-◌, List, [], ◌∷◌, ◌++◌, length, flat_map, map, drop, take, ℤ}
use Rattle.ipg_lin.specs.declared.formula.Formula.{Formula, fold-Formula}
use Rattle.ipg_lin.specs.declared.formula.Formula.TheOpen.{Formula-F}
use Rattle.ipg_lin.specs.declared.formula.Formula.TheVariants as formulas
use Rattle.ipg_lin.specs.declared.formula.Boxed.{Boxed}

-- variable 0 stays, the others are n further on
abbrev pub moved : ℕ → ℕ → ℕ
moved n zero = zero
moved n (suc x) = suc x + n

abbrev pub moved_term : ℕ → ℕ × ℤ → ℕ × ℤ
moved_term n term = (moved n term.0, term.1)

abbrev pub apart_step : ℕ → Formula-F Formula → Formula
apart_step n (Formula-F.Atom form) = formulas.Atom (record form { terms = map (moved_term n) form.terms })
apart_step n (Formula-F.All members) = formulas.All members
apart_step n (Formula-F.Any members) = formulas.Any members

unfoldable pub apart : ℕ → Formula → Formula
apart n = fold-Formula Formula (apart_step n)

-- how many variables a part has of its own
abbrev pub own_variables : Formula × Boxed → ℕ
own_variables part = length part.1.bounds - 1

-- the parts, of which n variables stand before the first one's own
abbrev pub parts_apart : ℕ → List (Formula × Boxed) → List Formula
parts_apart n [] = []
parts_apart n (part ∷ parts) = apart n part.0 ∷ parts_apart (n + own_variables part) parts

-- the bounds of variable 0 are those of the first part
abbrev pub shared_bounds : List (Formula × Boxed) → List (ℤ × ℤ)
shared_bounds [] = []
shared_bounds (part ∷ parts) = take 1 part.1.bounds

unfoldable pub joint : List (Formula × Boxed) → Formula × Boxed
joint parts = (
  formulas.All (parts_apart 0 parts),
  record { bounds = shared_bounds parts ++ flat_map (λ part. drop 1 part.1.bounds) parts },
)
