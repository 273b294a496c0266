use Rattle.std.proofs.Common.{◌≡◌, ◌≤◌, ℕ, [], length}
use Rattle.ipg_core.specs.Environment.{Environment}
use Rattle.ipg_table.specs.Hand.{handed}
use Rattle.ipg_table.specs.Running.{run}
use Rattle.ipg_table.proofs.in_hand.in_hand.Given as goal

abbrev pub decreases-loop-left : goal.decreases-loop-left
decreases-loop-left g l = length l.left

-- what is left computes with what is in hand what all rows do
abbrev pub invariant-loop-left : goal.invariant-loop-left
invariant-loop-left g l = (env : Environment) (room : ℕ) → g.R.Results.stands l.results env → 2 ≤ room
    → run env room 0 l.ops [] ≡ run env room 0 l.left (handed l.number)
