use Rattle.std.proofs.Common.{◌≡◌, ℕ, true, take, length, ◌⊎◌}
use Rattle.std.specs.Prelude.{Contains}
use Rattle.ipg_core.specs.MustTouch.{is_marked}
use Rattle.ipg_order.proofs.closure.set_all.Given as goal

abbrev pub invariant-loop-key : goal.invariant-loop-key
invariant-loop-key l = record {
  size : length l.flags.items ≡ length l.fn.flags.items;
  keeps : (k : ℕ) → is_marked l.fn.flags.items k ≡ true → is_marked l.flags.items k ≡ true;
  sets : (k : ℕ) → Contains (take l.key-index l.keys) k → is_marked l.flags.items k ≡ true;
  only : (k : ℕ) → is_marked l.flags.items k ≡ true → (is_marked l.fn.flags.items k ≡ true) ⊎ Contains l.keys k;
}
