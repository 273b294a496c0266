-- What holds of orders, and of those that get stuck.
use Rattle.std.specs.Prelude.{◌≡◌, ℕ, List}
use Rattle.ipg_core.specs.declared.grammar.CoreAlt.{CoreAlt}
use Rattle.ipg_core.specs.declared.grammar.CoreRule.{CoreRule}
use Rattle.ipg_core.specs.declared.grammar.CoreTerm.{CoreTerm}
use Rattle.ipg_core.specs.Grammar.{Grammar}
use Rattle.ipg_core.specs.Good.{AltAt, IsOrdered, WellFormed, Good}
use Rattle.ipg_order.specs.Stuck.{IsStuck}
use Rattle.ipg_order.specs.Answer.{without_orders, HasOrder, IsFirstStuck}

-- terms that get stuck have no order
abbrev pub StuckHasNone : Type 0
StuckHasNone = (g : Grammar) (at : ℕ × ℕ) (terms : List CoreTerm) (u : ℕ) → IsStuck g at terms u → HasOrder g at terms → ⊥

-- good grammars that differ in no more than orders are one
abbrev pub OrdersOnce : Type 0
OrdersOnce = (g h : Grammar) → Good g → Good h → without_orders g ≡ without_orders h → g ≡ h

-- no terms of a good grammar get stuck
abbrev pub GoodIsNotStuck : Type 0
GoodIsNotStuck = (g : Grammar) (at : ℕ × ℕ) (u : ℕ) → Good g → IsFirstStuck (without_orders g) at u → ⊥

-- the first alternative that gets stuck is one, and gets stuck at one term
abbrev pub StuckOnce : Type 0
StuckOnce = (g : Grammar) (at other : ℕ × ℕ) (u v : ℕ) → IsFirstStuck g at u → IsFirstStuck g other v → (at ≡ other) × (u ≡ v)

-- what is well formed is so without its orders
abbrev pub FormedWithout : Type 0
FormedWithout = (g : Grammar) → WellFormed g → WellFormed (without_orders g)

-- what is well formed without its orders is good if they are orders there
abbrev pub GoodAsOrdered : Type 0
GoodAsOrdered = (g : Grammar) → WellFormed (without_orders g)
    → ((at : ℕ × ℕ) (rule : CoreRule) (alt : CoreAlt) → AltAt g rule alt at → IsOrdered (without_orders g) at alt) → Good g
