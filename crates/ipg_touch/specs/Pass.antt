-- A pass over the rules: its marks stay borne out by rounds, and where it adds none, no round would.
use Rattle.std.specs.Prelude.{◌≡◌, ℕ, ◌+◌, List, [], ◌∷◌, length, Bool, true, false, Some, slice_get, slice_set}
use Rattle.ipg_core.specs.declared.grammar.CoreAlt.{CoreAlt}
use Rattle.ipg_core.specs.declared.grammar.CoreRule.{CoreRule}
use Rattle.ipg_core.specs.Grammar.{Grammar}
use Rattle.ipg_core.specs.MustTouch.{Marks, is_marked, all_marked, round}

-- what the first marks, the second does
abbrev pub AreBelow : Marks → Marks → Type 0
AreBelow low high = (r : ℕ) → is_marked low r ≡ true → is_marked high r ≡ true

-- a round bears the marks out
pub record AreSound (g : Grammar) (marks : Marks) : Type 0 where
  pub size : length marks ≡ length g.rules
  pub rounds : ℕ
  pub below : AreBelow marks (round g rounds)

-- each rule that touches by the marks is marked
abbrev pub AreClosed : List CoreRule → Marks → Type 0
AreClosed rules marks = (r : ℕ) (rule : CoreRule) → slice_get rules r ≡ Some rule → all_marked marks rule.alts ≡ true → is_marked marks r ≡ true

-- a rule is marked anew, or stays as it was
abbrev pub Marking : Bool → Marks → ℕ → List CoreAlt → Marks → Type 0
Marking true old rule alts new = (new ≡ slice_set old rule true) × (is_marked old rule ≡ false) × (all_marked old alts ≡ true)
Marking false old rule alts new = (new ≡ old) × (all_marked old alts ≡ true → is_marked old rule ≡ true)

-- how many rules aren't marked
abbrev pub unmarked : Marks → ℕ
unmarked [] = 0
unmarked (true ∷ marks) = unmarked marks
unmarked (false ∷ marks) = unmarked marks + 1
