use Rattle.std.proofs.Common.{ℕ, ◌<◌}
use Rattle.ipg_order.specs.Needs.{IsReady}
use Rattle.ipg_order.proofs.arranging.first_ready.Given as goal

-- none so far is ready
abbrev pub invariant-loop-item : goal.invariant-loop-item
invariant-loop-item l = (w : ℕ) → w < l.item → IsReady l.needs l.taken w → ⊥
