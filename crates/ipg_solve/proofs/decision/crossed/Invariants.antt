use Rattle.std.proofs.Common.{◌≡◌, ℕ, ◌<◌, false, get_or}
use Rattle.std.specs.Prelude.{int_lt}
use Rattle.ipg_solve.proofs.Crossing.{no_bounds}
use Rattle.ipg_solve.proofs.decision.crossed.Given as goal

-- no bounds so far cross
abbrev pub invariant-loop-x : goal.invariant-loop-x
invariant-loop-x l = (k : ℕ) → k < l.x → int_lt (get_or l.bounds k no_bounds).1 (get_or l.bounds k no_bounds).0 ≡ false
