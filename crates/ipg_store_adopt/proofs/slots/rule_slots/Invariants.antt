use Rattle.std.proofs.Common.{◌≡◌, ◌+◌, ◌<◌, ◌^◌, drop}
use Rattle.std.specs.List.{sum_by}
use Rattle.ipg_core.specs.Good.{slots_in}
use Rattle.ipg_store_adopt.specs.Slots.{capped}
use Rattle.ipg_store_adopt.proofs.slots.rule_slots.Given as goal

-- what is counted and what is left are the whole, in 64 bits
abbrev pub invariant-loop-alt : goal.invariant-loop-alt
invariant-loop-alt l =
    (capped (l.total + sum_by (λ alt. sum_by slots_in alt.terms) (drop l.alt-index l.rule.alts))
    ≡ capped (sum_by (λ alt. sum_by slots_in alt.terms) l.rule.alts))
    × (l.total < 2 ^ 64)
