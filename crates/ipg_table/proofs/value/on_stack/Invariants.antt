use Rattle.std.proofs.Common.{◌≡◌, ◌≤◌, [], length}
use Rattle.ipg_core.specs.Environment.{Environment}
use Rattle.ipg_table.specs.Running.{run}
use Rattle.ipg_table.specs.Stack.{stacked}
use Rattle.ipg_table.proofs.value.on_stack.Given as goal

abbrev pub decreases-loop-left : goal.decreases-loop-left
decreases-loop-left g l = length l.left

-- what is left computes what all rows do
abbrev pub invariant-loop-left : goal.invariant-loop-left
invariant-loop-left g l =
    ((env : Environment) → g.R.Results.stands l.results env
    → run env (length l.fn.area) 0 l.ops [] ≡ run env (length l.fn.area) 0 l.left (stacked l.area l.top))
    × (l.top ≤ length l.area) × (length l.area ≡ length l.fn.area)
