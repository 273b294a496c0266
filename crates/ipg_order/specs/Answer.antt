-- What ordering answers.
use Rattle.std.specs.Prelude.{◌≡◌, ℕ, ◌<◌, List, [], map, length, ◌⊎◌}
use Rattle.ipg_core.specs.declared.grammar.CoreAlt.{CoreAlt}
use Rattle.ipg_core.specs.declared.grammar.CoreRule.{CoreRule}
use Rattle.ipg_core.specs.declared.grammar.CoreTerm.{CoreTerm}
use Rattle.ipg_core.specs.Grammar.{Grammar}
use Rattle.ipg_core.specs.Good.{AltAt}
use Rattle.ipg_core.specs.Order.{InOrder, Provides}
use Rattle.ipg_order.specs.declared.fault.OrderFault.{OrderFault}
use Rattle.ipg_order.specs.declared.fault.OrderFault.TheVariants.{Circular, Memory}
use Rattle.ipg_order.specs.Stuck.{IsStuck}

abbrev pub alt_alone : CoreAlt → CoreAlt
alt_alone alt = record { terms = alt.terms; order = [] }

abbrev pub rule_alone : CoreRule → CoreRule
rule_alone rule = record { name = rule.name; holder = rule.holder; alts = map alt_alone rule.alts }

-- the same grammar, with no term in any order
abbrev pub without_orders : Grammar → Grammar
without_orders g = record { rules = map rule_alone g.rules; names = g.names }

-- the terms of the alternative have an order
abbrev pub HasOrder : Grammar → ℕ × ℕ → List CoreTerm → Type 0
HasOrder g at terms = (order : List ℕ) × InOrder (Provides g at terms) (length terms) [] order

-- the place is before the other one, in the order of rules
abbrev pub IsBefore : ℕ × ℕ → ℕ × ℕ → Type 0
IsBefore at to = (at.0 < to.0) ⊎ ((at.0 ≡ to.0) × (at.1 < to.1))

-- the first alternative whose terms have no order, and where it gets stuck
pub record IsFirstStuck (g : Grammar) (at : ℕ × ℕ) (term : ℕ) : Type 0 where
  pub rule : CoreRule
  pub alt : CoreAlt
  pub is_alt : AltAt g rule alt at
  pub stuck : IsStuck g at alt.terms term
  pub before : (to : ℕ × ℕ) (other : CoreRule) (alt_there : CoreAlt) → IsBefore to at → AltAt g other alt_there to → HasOrder g to alt_there.terms

-- a fault that is no want of memory tells where an order gets stuck
abbrev pub OrderStops : Grammar → OrderFault → Type 0
OrderStops g (Circular rule alt term) = IsFirstStuck g (rule, alt) term
OrderStops g Memory = Unit {0}
