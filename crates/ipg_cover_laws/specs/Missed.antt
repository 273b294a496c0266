-- A place that the leaves of a tree miss solves the gap formula of an alternative.
use Rattle.std.specs.Prelude.{◌≡◌, ◌⊎◌, ℕ, ◌<◌, ◌≤◌, List, length, Ok}
use Rattle.ipg_core.specs.declared.grammar.CoreAlt.{CoreAlt}
use Rattle.ipg_core.specs.declared.grammar.CoreRule.{CoreRule}
use Rattle.ipg_core.specs.Grammar.{Grammar}
use Rattle.ipg_core.specs.Tree.{Tree}
use Rattle.ipg_core.specs.Environment.{Values}
use Rattle.ipg_core.specs.Meaning.{den}
use Rattle.ipg_core.specs.MustTouch.{Marks, AreLimit}
use Rattle.ipg_core.specs.Good.{AltAt, Good}
use Rattle.ipg_core.specs.Grown.{max_input, IsInput, Grown}
use Rattle.ipg_facts_laws.specs.Missed.{SolvesGap}
use Rattle.ipg_cover_leaves.specs.Bytes.{puts}
use Rattle.ipg_cover_leaves.specs.Leaves.{leaves_of}
use Rattle.ipg_cover_leaves.specs.Back.{IsPut}
use Rattle.ipg_cover_laws.specs.Reaches.{Reaches}

-- a rule that this one leads to has an alternative whose gap formula some place of some part solves
pub record GapBelow (g : Grammar) (marks : Marks) (first : ℕ) : Type 0 where
  -- the rule and its alternative, by their numbers
  pub at : ℕ × ℕ
  pub reached : Reaches g first at.0
  pub rule : CoreRule
  pub alt : CoreAlt
  pub is_at : AltAt g rule alt at
  -- the length of the part, and the place
  pub size : ℕ
  pub place : ℕ
  pub inside : place < size
  pub small : size ≤ max_input
  pub solves : SolvesGap g marks at size place

-- each place of the bytes of a tree, of a rule that may be asked for them, has a byte that a leaf puts there, or some gap
-- formula has a solution
abbrev pub MissedPlacesSolve : Type 0
MissedPlacesSolve = (g : Grammar) (marks : Marks) (height rule : ℕ) (s : List ℕ) (outer : Values) (tree : Tree) (place : ℕ)
    → Good g → AreLimit g marks → IsInput s → Grown g rule s outer → den g height rule s outer ≡ Ok tree → place < length s
    → IsPut (puts (leaves_of tree)) place ⊎ GapBelow g marks rule
