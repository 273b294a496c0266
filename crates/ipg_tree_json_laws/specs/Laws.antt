-- One JSON text is of one printed tree: it says all that the lines say.
use Rattle.std.specs.Prelude.{◌≡◌, ◌≢◌, ℕ, List}
use Rattle.std.specs.List.{AllByRecursion}
use Rattle.ipg_core.specs.declared.grammar.CoreRule.{CoreRule}
use Rattle.ipg_core.specs.Grammar.{Grammar}
use Rattle.ipg_core.specs.Tree.{Tree}
use Rattle.ipg_core.specs.Lines.{lines}
use Rattle.ipg_tree.specs.Json.{json}

-- a text without a quotation mark, as is each of letters, digits and `_`
abbrev pub IsUnquoted : List ℕ → Type 0
IsUnquoted text = AllByRecursion (λ b. b ≢ 34) text

-- a grammar whose rules and attributes have such names
pub record HasPlainNames (g : Grammar) : Type 0 where
  pub rules : AllByRecursion (λ (rule : CoreRule). IsUnquoted rule.name) g.rules
  pub names : AllByRecursion IsUnquoted g.names

-- two trees of one JSON text have the same printed lines
abbrev pub OneText : Type 0
OneText = (g : Grammar) (one other : Tree) → HasPlainNames g → json g one ≡ json g other → lines g one 0 ≡ lines g other 0
