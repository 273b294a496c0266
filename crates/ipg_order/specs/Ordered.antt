-- What ordering makes of alternatives and rules, by the lists of what terms need.
use Rattle.std.specs.Prelude.{◌≡◌, ℕ, ◌+◌, ◌<◌, ◌≤◌, List, [], ◌∷◌, length, Some, slice_get, Result, Ok, Err}
use Rattle.std.specs.List.{AllByRecursion}
use Rattle.std.specs.declared.vec.Vec.{Vec}
use Rattle.std.specs.declared.alloc.Global.{Global}
use Rattle.ipg_core.specs.declared.grammar.CoreAlt.{CoreAlt}
use Rattle.ipg_core.specs.declared.grammar.CoreRule.{CoreRule}
use Rattle.ipg_core.specs.MustTouch.{Marks}
use Rattle.ipg_core.specs.Order.{InOrder}
use Rattle.ipg_complete.specs.declared.completed.CompletedAlt.{CompletedAlt}
use Rattle.ipg_complete.specs.declared.completed.CompletedRule.{CompletedRule}
use Rattle.ipg_order.specs.declared.ordering.AltFault.{AltFault}
use Rattle.ipg_order.specs.declared.ordering.AltFault.TheVariants as alt_fault
use Rattle.ipg_order.specs.declared.fault.OrderFault.{OrderFault}
use Rattle.ipg_order.specs.declared.fault.OrderFault.TheVariants as order_fault
use Rattle.ipg_order.specs.declared.ordering.RuleFault.{RuleFault}
use Rattle.ipg_order.specs.declared.ordering.RuleFault.TheVariants as rule_fault
use Rattle.ipg_order.specs.Stuck.{EndsAt}
use Rattle.ipg_order.specs.Needs.{Listed}
use Rattle.ipg_order.specs.Providers.{Holders, all_needs}

-- what the terms of an alternative need
abbrev pub needs_of : Holders → Marks → ℕ × ℕ → CompletedAlt → List (List ℕ)
needs_of holders flags at alt = all_needs holders flags at alt.terms 0 alt.terms

-- the same terms, in their order
pub record IsOrderedAlt (holders : Holders) (flags : Marks) (at : ℕ × ℕ) (old : CompletedAlt) (new : CoreAlt) : Type 0 where
  pub terms : new.terms ≡ old.terms
  pub order : InOrder (Listed (needs_of holders flags at old)) (length old.terms) [] new.order

-- the order gets stuck at a term
abbrev pub StopsAt : Holders → Marks → ℕ × ℕ → CompletedAlt → ℕ → Type 0
StopsAt holders flags at alt u = (order : List ℕ) × EndsAt (Listed (needs_of holders flags at alt)) (length alt.terms) [] order u

-- a fault that is no want of memory tells where the order gets stuck
abbrev pub AltStops : Holders → Marks → ℕ × ℕ → CompletedAlt → Result CoreAlt AltFault → Type 0
AltStops holders flags at alt (Ok new) = Unit {0}
AltStops holders flags at alt (Err (alt_fault.Stuck u)) = StopsAt holders flags at alt u
AltStops holders flags at alt (Err alt_fault.Memory) = Unit {0}

-- an alternative has an order
abbrev pub HasOrder : Holders → Marks → ℕ × ℕ → CompletedAlt → Type 0
HasOrder holders flags at alt = (order : List ℕ) × InOrder (Listed (needs_of holders flags at alt)) (length alt.terms) [] order

-- each alternative of a rule in order, numbered from n on
abbrev pub AreOrderedAlts : Holders → Marks → ℕ → ℕ → List CompletedAlt → List CoreAlt → Type 0
AreOrderedAlts holders flags r n [] [] = Unit {0}
AreOrderedAlts holders flags r n (old ∷ olds) (new ∷ news) = IsOrderedAlt holders flags (r, n) old new × AreOrderedAlts holders flags r (n + 1) olds news
AreOrderedAlts holders flags r n [] (new ∷ news) = ⊥
AreOrderedAlts holders flags r n (old ∷ olds) [] = ⊥

-- those before have an order, and this one gets stuck
pub record StopsIn (holders : Holders) (flags : Marks) (r : ℕ) (alts : List CompletedAlt) (a u : ℕ) : Type 0 where
  pub alt : CompletedAlt
  pub is_alt : slice_get alts a ≡ Some alt
  pub stops : StopsAt holders flags (r, a) alt u
  pub before : (b : ℕ) (other : CompletedAlt) → b < a → slice_get alts b ≡ Some other → HasOrder holders flags (r, b) other

abbrev pub RuleStops : Holders → Marks → ℕ → List CompletedAlt → Result (Vec CoreAlt Global) RuleFault → Type 0
RuleStops holders flags r alts (Ok new) = Unit {0}
RuleStops holders flags r alts (Err (rule_fault.Stuck a u)) = StopsIn holders flags r alts a u
RuleStops holders flags r alts (Err rule_fault.Memory) = Unit {0}

pub record AreSmall (alts : List CompletedAlt) : Type 0 where
  pub count : length alts ≤ 64
  pub each : AllByRecursion (λ alt. length alt.terms ≤ 256) alts

-- the same rule, with its alternatives in order
pub record IsOrderedRule (holders : Holders) (flags : Marks) (r : ℕ) (old : CompletedRule) (new : CoreRule) : Type 0 where
  pub name : new.name ≡ old.name
  pub holder : new.holder ≡ old.holder
  pub alts : AreOrderedAlts holders flags r 0 old.alts new.alts

-- each rule in order, numbered from r on
abbrev pub AreOrderedRules : Holders → Marks → ℕ → List CompletedRule → List CoreRule → Type 0
AreOrderedRules holders flags r [] [] = Unit {0}
AreOrderedRules holders flags r (old ∷ olds) (new ∷ news) = IsOrderedRule holders flags r old new × AreOrderedRules holders flags (r + 1) olds news
AreOrderedRules holders flags r [] (new ∷ news) = ⊥
AreOrderedRules holders flags r (old ∷ olds) [] = ⊥

-- each alternative of the rule has an order
abbrev pub HasOrders : Holders → Marks → ℕ → CompletedRule → Type 0
HasOrders holders flags r rule = (b : ℕ) (alt : CompletedAlt) → slice_get rule.alts b ≡ Some alt → HasOrder holders flags (r, b) alt

-- the rules before have orders, and this one gets stuck
pub record StopsAtRule (holders : Holders) (flags : Marks) (rules : List CompletedRule) (r a u : ℕ) : Type 0 where
  pub rule : CompletedRule
  pub is_rule : slice_get rules r ≡ Some rule
  pub stops : StopsIn holders flags r rule.alts a u
  pub before : (s : ℕ) (other : CompletedRule) → s < r → slice_get rules s ≡ Some other → HasOrders holders flags s other

abbrev pub RulesStop : Holders → Marks → List CompletedRule → Result (Vec CoreRule Global) OrderFault → Type 0
RulesStop holders flags rules (Ok new) = Unit {0}
RulesStop holders flags rules (Err (order_fault.Circular r a u)) = StopsAtRule holders flags rules r a u
RulesStop holders flags rules (Err order_fault.Memory) = Unit {0}

pub record AreSmallRules (rules : List CompletedRule) : Type 0 where
  pub count : length rules ≤ 1024
  pub each : AllByRecursion (λ rule. AreSmall rule.alts) rules
