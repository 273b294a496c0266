use Rattle.std.proofs.Common.{◌≡◌, ℕ, true, length, take}
use Rattle.ipg_core.specs.MustTouch.{is_marked}
use Rattle.ipg_cover.specs.Pass.{AreSound, Passed}
use Rattle.ipg_cover.proofs.reach.mark_callees.Given as goal

abbrev pub invariant-loop-edge : goal.invariant-loop-edge
invariant-loop-edge l = record {
  size : length l.flags.items ≡ length l.fn.flags.items;
  keeps : (rule : ℕ) → is_marked l.fn.flags.items rule ≡ true → is_marked l.flags.items rule ≡ true;
  sound : AreSound l.edges l.fn.flags.items → AreSound l.edges l.flags.items;
  pass : Passed l.more (take l.edge-index l.edges) l.fn.flags.items l.flags.items;
}
