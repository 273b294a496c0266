use Rattle.std.proofs.Common.{◌≡◌, ℕ, true, take}
use Rattle.std.specs.Prelude.{Contains}
use Rattle.ipg_core.specs.MustTouch.{is_marked}
use Rattle.ipg_order.proofs.arranging.are_taken.Given as goal

-- each so far is taken
abbrev pub invariant-loop-item : goal.invariant-loop-item
invariant-loop-item l = (v : ℕ) → Contains (take l.item-index l.items) v → is_marked l.taken v ≡ true
