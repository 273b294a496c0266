-- Alternatives whose terms have all run: values for their variables.
use Rattle.std.specs.Prelude.{◌≡◌, ℕ, List, length, Ok, None, ℤ, negsuc, pos, ◌≤ℤ◌}
use Rattle.ipg_core.specs.declared.grammar.CoreAlt.{CoreAlt}
use Rattle.ipg_core.specs.declared.grammar.CoreRule.{CoreRule}
use Rattle.ipg_core.specs.Grammar.{Grammar}
use Rattle.ipg_core.specs.Environment.{Values}
use Rattle.ipg_core.specs.Meaning.{Frame, State, start, environment, terms_on, den}
use Rattle.ipg_core.specs.MustTouch.{Marks, AreLimit}
use Rattle.ipg_core.specs.Good.{AltAt, Good}
use Rattle.ipg_core.specs.Grown.{IsInput, Grown}
use Rattle.ipg_facts.specs.declared.edition.Edition.TheVariants.{Later}
use Rattle.ipg_facts_variables.specs.Variable.{caller_side, whole}
use Rattle.ipg_facts.specs.Keep.{opening, holder_facts}
use Rattle.ipg_facts.specs.Gap.{point_side}
use Rattle.ipg_facts_laws.specs.Valued.{Valuation}
use Rattle.ipg_facts_laws.specs.Known.{AreSo, Fits}
use Rattle.ipg_facts_laws.specs.Ran.{AllRan}
use Rattle.ipg_facts_laws.specs.Laws.{IsInRange}

-- the alternative at work on s
abbrev pub frame_at : Grammar → ℕ × ℕ → List ℕ → Values → Frame
frame_at g at s outer = record { grammar = g; rule = at.0; alt = at.1; bytes = s; outer = outer }

-- all terms of an alternative have run, in their order
pub record Finished (g : Grammar) (at : ℕ × ℕ) (s : List ℕ) (outer : Values) (height : ℕ) : Type 0 where
  pub rule : CoreRule
  pub alt : CoreAlt
  pub is_at : AltAt g rule alt at
  pub state : State
  pub came : (terms_on (den g height) (frame_at g at s outer) alt.terms alt.order (start (length alt.terms))).answer ≡ Ok state

abbrev pub IsNumber : ℤ → Type 0
IsNumber z = (negsuc 9223372036854775807 ≤ℤ z) × (z ≤ℤ pos 9223372036854775807)

-- values in range that fit the state in which its terms have run and what its holder puts; the place is z
pub record FitsEnd (g : Grammar) (marks : Marks) (at : ℕ × ℕ) (s : List ℕ) (outer : Values) (height : ℕ) (end : Finished g at s outer height) (z : ℤ)
    : Type 0 where
  pub values : Valuation
  pub ranged : IsInRange values
  pub fits : Fits values (opening g marks Later caller_side end.alt) (environment (frame_at g at s outer) end.state None)
  pub ran : AllRan (opening g marks Later caller_side end.alt) (environment (frame_at g at s outer) end.state None) end.alt.order
  pub holder : AreSo values (holder_facts g marks end.rule.holder end.alt)
  pub size : values (whole caller_side) ≡ pos (length s)
  pub place : values (whole point_side) ≡ z

-- where all terms of an alternative have run on what it may be asked, there are such values, whatever the place
abbrev pub FinishedFit : Type 0
FinishedFit = (g : Grammar) (marks : Marks) (at : ℕ × ℕ) (s : List ℕ) (outer : Values) (height : ℕ) (z : ℤ)
    → Good g → AreLimit g marks → IsInput s → Grown g at.0 s outer → IsNumber z
    → (end : Finished g at s outer height) → FitsEnd g marks at s outer height end z
