use Rattle.std.proofs.Common.{◌≡◌, ℕ, true, length, ◌*◌, List, take}
use Rattle.ipg_core.specs.MustTouch.{is_marked}
use Rattle.ipg_order.specs.Closure.{AreSound}
use Rattle.ipg_order.proofs.Handing.{PassingAll}
use Rattle.ipg_order.proofs.closure.hand_on.Given as goal

abbrev pub invariant-loop-hand : goal.invariant-loop-hand
invariant-loop-hand l = record {
  size : length l.flags.items ≡ l.rows * 256;
  keeps : (k : ℕ) → is_marked l.fn.flags.items k ≡ true → is_marked l.flags.items k ≡ true;
  sound : (keys : List ℕ) → AreSound keys l.hands l.fn.flags.items → AreSound keys l.hands l.flags.items;
  pass : PassingAll l.more (take l.hand-index l.hands) l.fn.flags.items l.flags.items;
}
