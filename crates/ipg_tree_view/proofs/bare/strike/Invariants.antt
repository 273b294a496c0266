use Rattle.std.proofs.Common.{◌≡◌, ◌-◌, ◌<◌, ◌≤◌, ℕ, length, get_or, min, max, true, not, ◌&&◌}
use Rattle.ipg_tree_view.specs.Bare as spec
use Rattle.ipg_tree_view.proofs.bare.strike.Given as goal

abbrev pub invariant-loop-place : goal.invariant-loop-place
invariant-loop-place l = record {
  long : length l.bare ≡ length l.fn.bare;
  from : l.from ≤ l.place;
  ends : l.place ≤ max l.from l.end;
  end : l.end ≡ min l.to (length l.fn.bare);
  struck : (place : ℕ) → place < length l.fn.bare
      → get_or l.bare place true ≡ get_or l.fn.bare place true && not (spec.is_among l.from l.place place);
}

abbrev pub decreases-loop-place : goal.decreases-loop-place
decreases-loop-place l = l.end - l.place
