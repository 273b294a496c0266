-- The `left` that the code holds: what it begins with, and the arrays and repetitions behind that.
use Rattle.std.specs.Prelude.{ℕ, ◌<◌, ◌^◌, List, [], ◌∷◌, length}
use Rattle.std.specs.List.{AllByRecursion}
use Rattle.ipg_core.specs.declared.grammar.Sym.TheVariants.{Text}
use Rattle.ipg_core.specs.declared.grammar.CoreField.TheVariants.{End}
use Rattle.ipg_core.specs.declared.grammar.CoreExpr.{CoreExpr}
use Rattle.ipg_core.specs.declared.grammar.CoreExpr.TheVariants.{Seen, After}
use Rattle.ipg_names.specs.declared.named.NamedAlt.{NamedAlt}
use Rattle.ipg_names.specs.declared.named.NamedRule.{NamedRule}
use Rattle.ipg_complete.specs.declared.left.Base.{Base}
use Rattle.ipg_complete.specs.declared.left.Base.TheVariants as base
use Rattle.ipg_complete.specs.Completion.{left_at_first}

abbrev pub base_expr : Base → CoreExpr
base_expr base.Start = left_at_first
base_expr (base.Slot term sym) = Seen term sym End
base_expr (base.Switch term) = Seen term (Text []) End

-- behind arrays and repetitions, in text order
abbrev pub behind_items : CoreExpr → List ℕ → CoreExpr
behind_items left [] = left
behind_items left (u ∷ us) = behind_items (After u left) us

-- as many terms as can be numbered
abbrev pub HasFewTerms : NamedAlt → Type 0
HasFewTerms alt = length alt.terms < 2 ^ 32

abbrev pub HaveFewTerms : NamedRule → Type 0
HaveFewTerms rule = AllByRecursion HasFewTerms rule.alts
