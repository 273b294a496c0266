use Rattle.std.proofs.Common.{◌≡◌, ◌≤◌, length, take}
use Rattle.ipg_region.specs.Stack.{flat}
use Rattle.ipg_region.proofs.blocks.cut_in.Given as goal

-- what is left has all runs that stay
abbrev pub invariant-loop-block : goal.invariant-loop-block
invariant-loop-block g l = (l.start ≡ length (flat l.blocks.items)) × (l.to ≤ l.start) × (take l.to (flat l.blocks.items) ≡ take l.to (flat l.fn.blocks.items))

abbrev pub decreases-loop-block : goal.decreases-loop-block
decreases-loop-block g l = length l.blocks.items
