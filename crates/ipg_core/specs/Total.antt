-- A total grammar: parsing by it ends, within a height that is known beforehand.
use Rattle.std.specs.Prelude.{◌≡◌, ◌≢◌, ℕ, ◌+◌, ◌*◌, ◌<◌, List, length, Err, Some}
use Rattle.std.specs.List.{AllByRecursion}
use Rattle.ipg_core.specs.declared.grammar.Sym.{Sym}
use Rattle.ipg_core.specs.declared.grammar.Sym.TheVariants.{Text, Prim, Rule}
use Rattle.ipg_core.specs.declared.grammar.CoreRule.{CoreRule}
use Rattle.ipg_core.specs.Grammar.{Grammar, rule_at}
use Rattle.ipg_core.specs.Environment.{Values}
use Rattle.ipg_core.specs.Run.{Deep}
use Rattle.ipg_core.specs.Mention.{EachSym}
use Rattle.ipg_core.specs.Meaning.{den}
use Rattle.ipg_core.specs.Grown.{IsInput, Grown}

-- what a rule may be asked
pub record Fits (g : Grammar) (r : ℕ) (s : List ℕ) (outer : Values) : Type 0 where
  pub rule : r < length g.rules
  pub input : IsInput s
  pub grown : Grown g r s outer

abbrev pub height_for : Grammar → List ℕ → ℕ
height_for g s = (length s + 1) * length g.rules

abbrev pub Total : Grammar → Type 0
Total g = (r : ℕ) (s : List ℕ) (outer : Values) → Fits g r s outer → den g (height_for g s) r s outer ≢ Err Deep

-- a symbol of the rule r leads on: it is no rule, or a later one
abbrev pub IsLater : Grammar → ℕ → Sym → Type 0
IsLater g r (Rule callee) = (r < callee) × (callee < length g.rules)
IsLater g r (Text bytes) = Unit {0}
IsLater g r (Prim prim) = Unit {0}

-- each call goes to a later rule
abbrev pub IsForward : Grammar → Type 0
IsForward g = (r : ℕ) (rule : CoreRule) → rule_at g r ≡ Some rule
    → AllByRecursion (λ alt. AllByRecursion (EachSym (IsLater g r)) alt.terms) rule.alts
