use Rattle.std.proofs.Common.{◌≡◌, ℕ, true, length, ◌*◌}
use Rattle.std.specs.Prelude.{Contains}
use Rattle.ipg_core.specs.MustTouch.{is_marked}
use Rattle.ipg_order.specs.Closure.{AreSound, unset}
use Rattle.ipg_order.proofs.closure.closure.Given as goal

abbrev pub invariant-loop : goal.invariant-loop
invariant-loop l = record {
  size : length l.flags.items ≡ l.rows * 256;
  sound : AreSound l.keys l.hands l.flags.items;
  holds : (k : ℕ) → Contains l.keys k → is_marked l.flags.items k ≡ true;
}

-- each pass but the last sets a flag
abbrev pub decreases-loop : goal.decreases-loop
decreases-loop l = unset l.flags.items
