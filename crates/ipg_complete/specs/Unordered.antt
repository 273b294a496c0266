-- A completed grammar as contracts see it, and the core grammar that it is but for the order of terms.
use Rattle.std.specs.Prelude.{ℕ, List, [], map}
use Rattle.ipg_core.specs.declared.grammar.CoreAlt.{CoreAlt}
use Rattle.ipg_core.specs.declared.grammar.CoreRule.{CoreRule}
use Rattle.ipg_core.specs.Grammar.{Grammar}
use Rattle.ipg_complete.specs.declared.completed.CompletedAlt.{CompletedAlt}
use Rattle.ipg_complete.specs.declared.completed.CompletedRule.{CompletedRule}

pub record Unordered : Type 0 where
  pub rules : List CompletedRule
  pub names : List (List ℕ)

abbrev pub alt_of : CompletedAlt → CoreAlt
alt_of alt = record { terms = alt.terms; order = [] }

abbrev pub rule_of : CompletedRule → CoreRule
rule_of rule = record { name = rule.name; holder = rule.holder; alts = map alt_of rule.alts }

-- with no term in any order
abbrev pub core_of : Unordered → Grammar
core_of c = record { rules = map rule_of c.rules; names = c.names }
