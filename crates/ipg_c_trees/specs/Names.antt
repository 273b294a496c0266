-- The names of a grammar: a line for each rule, an empty line, and a line for each attribute; each by its number.
use Rattle.std.specs.Prelude.{ℕ, List, [], ◌∷◌, ◌++◌, flat_map}
use Rattle.ipg_core.specs.Grammar.{Grammar}
use Rattle.ipg_core.specs.declared.grammar.CoreRule.{CoreRule}

abbrev pub line : List ℕ → List ℕ
line name = name ++ 10 ∷ []

abbrev pub rule_lines : List CoreRule → List ℕ
rule_lines rules = flat_map (λ rule. line rule.name) rules

abbrev pub attr_lines : List (List ℕ) → List ℕ
attr_lines names = flat_map line names

abbrev pub names_of : Grammar → List ℕ
names_of g = rule_lines g.rules ++ (10 ∷ attr_lines g.names)
