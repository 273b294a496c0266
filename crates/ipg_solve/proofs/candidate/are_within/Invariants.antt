use Rattle.std.proofs.Common.{ℕ, ◌<◌, pos, get_or}
use Rattle.std.specs.Prelude.{◌≤ℤ◌}
use Rattle.ipg_solve.specs.Within.{no_bounds}
use Rattle.ipg_solve.proofs.candidate.are_within.Given as goal

abbrev pub invariant-loop-x : goal.invariant-loop-x
invariant-loop-x l = (k : ℕ) → k < l.x
    → ((get_or l.bounds k no_bounds).0 ≤ℤ get_or l.values k (pos 0)) × (get_or l.values k (pos 0) ≤ℤ (get_or l.bounds k no_bounds).1)
