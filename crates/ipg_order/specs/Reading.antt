-- Which terms of its holder a local rule waits for: those that set the attributes which it reads, itself or through others.
use Rattle.std.specs.Prelude.{◌≡◌, ℕ, ◌<◌, List, map, Option, Some, true, ◌↔◌}
use Rattle.ipg_complete.specs.declared.completed.CompletedRule.{CompletedRule}
use Rattle.ipg_core.specs.Grammar.{rule_at, holder_of}
use Rattle.ipg_core.specs.MustTouch.{Marks, is_marked}
use Rattle.ipg_core.specs.Order.{Sets, Reads}
use Rattle.ipg_complete.specs.Unordered.{Unordered, core_of}
use Rattle.ipg_order.specs.Closure.{flag}
use Rattle.ipg_order.specs.Locals.{terms_at}

pub record WaitsFor (c : Unordered) (holder : ℕ × ℕ) (r v : ℕ) : Type 0 where
  pub attr : ℕ
  pub sets : Sets (terms_at c.rules holder) v attr
  pub reads : Reads (core_of c) attr r

-- the flags tell it of each local rule
abbrev pub TellWaits : Unordered → Marks → Type 0
TellWaits c flags = (holder : ℕ × ℕ) (r v : ℕ) → holder_of (rule_at (core_of c) r) ≡ Some holder → v < 256
    → (is_marked flags (flag r v) ≡ true) ↔ WaitsFor c holder r v

abbrev pub holders_of : List CompletedRule → List (Option (ℕ × ℕ))
holders_of rules = map (λ rule. rule.holder) rules
