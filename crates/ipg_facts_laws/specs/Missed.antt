-- Where all terms of an alternative have run, and each result misses a place of the part, that place solves the gap formula.
use Rattle.std.specs.Prelude.{◌≡◌, ◌⊎◌, ℕ, ◌+◌, ◌<◌, ◌≤◌, List, length, pos}
use Rattle.std.specs.List.{AllByRecursion}
use Rattle.ipg_lin.specs.Form.{Assignment}
use Rattle.ipg_core.specs.Grammar.{Grammar}
use Rattle.ipg_core.specs.Tree.{Kid, Sub, Token, Number, Raw, Array, Many}
use Rattle.ipg_core.specs.Touch.{width}
use Rattle.ipg_core.specs.Environment.{Values}
use Rattle.ipg_core.specs.Meaning.{kids_done}
use Rattle.ipg_core.specs.MustTouch.{Marks, AreLimit}
use Rattle.ipg_core.specs.Good.{Good}
use Rattle.ipg_core.specs.Grown.{IsInput, Grown}
use Rattle.ipg_facts.specs.Gap.{gap}
use Rattle.ipg_facts_laws.specs.Laws.{Solves}
use Rattle.ipg_facts_laws.specs.Finished.{Finished}

-- a place outside of those from l up to r
abbrev pub IsOutside : ℕ → ℕ → ℕ → Type 0
IsOutside l r place = (place < l) ⊎ (r ≤ place)

-- a place outside of the bytes that a result takes, a call all those of its interval; arrays and repetitions may take it
abbrev pub Misses : ℕ → Kid → Type 0
Misses place (Sub from to tree) = IsOutside from to place
Misses place (Token from to bytes) = IsOutside from (from + length bytes) place
Misses place (Number from to prim high low) = IsOutside from (from + width prim) place
Misses place (Raw from to bytes) = IsOutside from to place
Misses place (Array sym items) = Unit {0}
Misses place (Many sym items) = Unit {0}

-- a solution of the gap formula of an alternative, in which the part has n bytes and the place is this one
pub record SolvesGap (g : Grammar) (marks : Marks) (at : ℕ × ℕ) (n place : ℕ) : Type 0 where
  pub values : Assignment
  pub solves : Solves values (gap g marks at.0 at.1)
  pub is_length : values 0 ≡ pos n
  pub is_place : values 1 ≡ pos place

abbrev pub AllMissedSolve : Type 0
AllMissedSolve = (g : Grammar) (marks : Marks) (at : ℕ × ℕ) (s : List ℕ) (outer : Values) (height place : ℕ)
    → Good g → AreLimit g marks → IsInput s → Grown g at.0 s outer → place < length s
    → (end : Finished g at s outer height) → AllByRecursion (Misses place) (kids_done end.state.done)
    → SolvesGap g marks at (length s) place
