use Rattle.std.proofs.Common.{◌≡◌, ◌+◌, ◌<◌, ◌^◌, drop}
use Rattle.std.specs.List.{sum_by}
use Rattle.ipg_core.specs.Good.{slots_in}
use Rattle.ipg_store_adopt.specs.Slots.{capped}
use Rattle.ipg_store_adopt.proofs.slots.alt_slots.Given as goal

-- what is counted and what is left are the whole, in 64 bits
abbrev pub invariant-loop-term : goal.invariant-loop-term
invariant-loop-term l = (capped (l.total + sum_by slots_in (drop l.term-index l.alt.terms)) ≡ capped (sum_by slots_in l.alt.terms)) × (l.total < 2 ^ 64)
