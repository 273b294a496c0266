use Rattle.std.proofs.Common.{◌-ℤ◌}
use Rattle.std.specs.Int.RustNames.{unsigned_abs}
use Rattle.ipg_solve_values.specs.Halving.{IsLeastRange}
use Rattle.ipg_solve_values.proofs.halving.least.Given as goal

abbrev pub invariant-loop-range : goal.invariant-loop-range
invariant-loop-range l = IsLeastRange l.f l.b l.x l.range

abbrev pub decreases-loop-range : goal.decreases-loop-range
decreases-loop-range l = unsigned_abs (l.range.high -ℤ l.range.low)
