use Rattle.std.proofs.Common.{◌≡◌, ℕ, ◌<◌, true}
use Rattle.ipg_core.specs.MustTouch.{is_marked}
use Rattle.ipg_order.proofs.arranging.first_free.Given as goal

-- each so far is taken
abbrev pub invariant-loop-item : goal.invariant-loop-item
invariant-loop-item l = (w : ℕ) → w < l.item → is_marked l.taken w ≡ true
