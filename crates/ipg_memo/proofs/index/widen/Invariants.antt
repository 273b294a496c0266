use Rattle.std.proofs.Common.{◌≡◌, ◌≤◌, ◌-◌, ◌++◌}
use Rattle.std.specs.Prelude.{None, replicate}
use Rattle.ipg_memo.proofs.index.widen.Given as goal

abbrev pub invariant-loop-count : goal.invariant-loop-count
invariant-loop-count g l = (l.count ≤ 8) × (l.cells.items ≡ l.fn.cells.items ++ replicate l.count None)

abbrev pub decreases-loop-count : goal.decreases-loop-count
decreases-loop-count g l = 8 - l.count
