-- The formula of a gap has bounds for each of its variables, of which the second is the place.
use Rattle.std.specs.Prelude.{◌≡◌, ℕ, ◌<◌, ◌≤◌, length, slice_get, Some}
use Rattle.ipg_lin.specs.Formula.{width}
use Rattle.ipg_core.specs.Grammar.{Grammar, rule_at}
use Rattle.ipg_core.specs.MustTouch.{Marks}
use Rattle.ipg_facts_variables.specs.Variable.{whole}
use Rattle.ipg_facts.specs.Keep.{alt_at}
use Rattle.ipg_facts_forms.specs.Numbers.{variables_of}
use Rattle.ipg_facts.specs.Gap.{gap, rule_gap, point_side, HasAlternative}

-- each variable has bounds, and variable 1 is the place
pub record IsGap (g : Grammar) (marks : Marks) (rule alt : ℕ) : Type 0 where
  pub bounded : width (gap g marks rule alt).0 ≤ length (gap g marks rule alt).1.bounds
  pub there : 1 < length (gap g marks rule alt).1.bounds
  pub place : slice_get (variables_of (rule_gap g marks (rule_at g rule) (alt_at g (rule, alt)))) 1 ≡ Some (whole point_side)

-- the gap of each alternative is such a formula
abbrev pub GapsAreBounded : Type 0
GapsAreBounded = (g : Grammar) (marks : Marks) (rule alt : ℕ) → HasAlternative g rule alt → IsGap g marks rule alt
