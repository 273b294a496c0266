-- The rules of a text in the order of their heads: each global rule, and after it the local rules of its alternatives.
use Rattle.std.specs.Prelude.{ℕ, ◌+◌, List, [], ◌∷◌, ◌++◌, map, length, Option, Some, None}
use Rattle.ipg_ast.specs.declared.grammar.Grammar.{Grammar}
use Rattle.ipg_ast.specs.declared.grammar.Rule.{Rule, out-Rule}
use Rattle.ipg_ast.specs.declared.grammar.Alt.{Alt, out-Alt}
use Rattle.ipg_ast.specs.declared.grammar.Term.{Term}

-- a rule; of a local one its holder, as the numbers of a rule and of its alternative, and the holder's terms
pub record ListedRule : Type 0 where
  pub rule : Rule
  pub holder : Option (ℕ × ℕ)
  pub outer : List Term

abbrev pub name_of : ListedRule → List ℕ
name_of entry = (out-Rule entry.rule).name.name

-- where the head stands
abbrev pub head_at : ListedRule → ℕ
head_at entry = (out-Rule entry.rule).name.span.from

abbrev pub alts_of : ListedRule → List Alt
alts_of entry = (out-Rule entry.rule).alts

abbrev pub global : Rule → ListedRule
global rule = record { rule = rule; holder = None; outer = [] }

-- a local rule of alternative a of rule r
abbrev pub local : ℕ → ℕ → Alt → Rule → ListedRule
local r a alt rule = record { rule = rule; holder = Some (r, a); outer = (out-Alt alt).terms }

-- the local rules of the alternatives of rule r, from alternative a on
abbrev pub locals_from : ℕ → ℕ → List Alt → List ListedRule
locals_from r a [] = []
locals_from r a (alt ∷ alts) = map (local r a alt) (out-Alt alt).locals ++ locals_from r (a + 1) alts

-- rule number r and its local rules
abbrev pub family_of : ℕ → Rule → List ListedRule
family_of r rule = global rule ∷ locals_from r 0 (out-Rule rule).alts

-- the rules from number r on
abbrev pub roster_from : ℕ → List Rule → List ListedRule
roster_from r [] = []
roster_from r (rule ∷ rules) = family_of r rule ++ roster_from (r + length (family_of r rule)) rules

abbrev pub roster_of : Grammar → List ListedRule
roster_of g = roster_from 0 g.rules
