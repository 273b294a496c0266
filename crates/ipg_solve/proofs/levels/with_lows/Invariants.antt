use Rattle.std.proofs.Common.{◌≡◌, ◌++◌, ℤ, drop, map}
use Rattle.ipg_solve.specs.Widened.{with_lows}
use Rattle.ipg_solve.proofs.levels.with_lows.Given as goal

-- the values so far, and the least ones of the bounds that are left
abbrev pub invariant-loop-bound : goal.invariant-loop-bound
invariant-loop-bound l = l.all ++ map (λ (b : ℤ × ℤ). b.0) (drop l.bound-index l.bound-items) ≡ with_lows l.bounds l.fn.values
