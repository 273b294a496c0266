use Rattle.std.proofs.Common.{◌≡◌, ◌+◌, ◌<◌, ◌^◌, drop}
use Rattle.std.specs.List.{sum_by}
use Rattle.ipg_core.specs.Good.{slots_in}
use Rattle.ipg_store_adopt.specs.Slots.{capped}
use Rattle.ipg_store_adopt.proofs.slots.slots.Given as goal

-- what is counted and what is left are the whole, in 64 bits
abbrev pub invariant-loop-rule : goal.invariant-loop-rule
invariant-loop-rule l =
    (capped (l.total + sum_by (λ rule. sum_by (λ alt. sum_by slots_in alt.terms) rule.alts) (drop l.rule-index l.rules))
    ≡ capped (sum_by (λ rule. sum_by (λ alt. sum_by slots_in alt.terms) rule.alts) l.rules))
    × (l.total < 2 ^ 64)
