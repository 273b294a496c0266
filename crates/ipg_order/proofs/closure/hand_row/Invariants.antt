use Rattle.std.proofs.Common.{◌≡◌, ℕ, true, length, ◌*◌, List}
use Rattle.std.specs.Prelude.{Contains}
use Rattle.ipg_core.specs.MustTouch.{is_marked}
use Rattle.ipg_order.specs.declared.closure.Hand.{Hand}
use Rattle.ipg_order.specs.Closure.{AreSound}
use Rattle.ipg_order.proofs.Handing.{Passing}
use Rattle.ipg_order.proofs.closure.hand_row.Given as goal

abbrev pub invariant-loop-column : goal.invariant-loop-column
invariant-loop-column l = record {
  size : length l.flags.items ≡ l.rows * 256;
  keeps : (k : ℕ) → is_marked l.fn.flags.items k ≡ true → is_marked l.flags.items k ≡ true;
  sound : (keys : List ℕ) (hands : List Hand) → Contains hands l.hand → AreSound keys hands l.fn.flags.items → AreSound keys hands l.flags.items;
  pass : Passing l.more l.hand l.column l.fn.flags.items l.flags.items;
}
