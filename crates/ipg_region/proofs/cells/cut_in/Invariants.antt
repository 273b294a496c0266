use Rattle.std.proofs.Common.{◌≡◌, ◌-◌, ◌^◌, ◌++◌, ◌<◌, length, take}
use Rattle.std.specs.List.{AllByRecursion}
use Rattle.ipg_region.specs.Chunks.{joined, IsFull}
use Rattle.ipg_region.proofs.cells.cut_in.Given as goal

-- what is left has all items that stay
abbrev pub invariant-loop-full : goal.invariant-loop-full
invariant-loop-full g l =
    AllByRecursion IsFull l.full.items
    × (length l.full.items < 2 ^ 19 - 1)
    × (take l.to (joined l.full.items ++ l.last.items) ≡ take l.to (joined l.fn.full.items ++ l.fn.last.items))

abbrev pub decreases-loop-full : goal.decreases-loop-full
decreases-loop-full g l = length l.full.items
