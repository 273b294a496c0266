use Rattle.std.proofs.Common.{suc, ◌≡◌, ◌<◌, ◌≤◌, length, take}
use Rattle.ipg_region.specs.Stack.{flat}
use Rattle.ipg_region.proofs.blocks.read_in.Given as goal

-- `start` runs come before the block, and the run is none of a later one
abbrev pub invariant-loop-start : goal.invariant-loop-start
invariant-loop-start g l = (l.at ≤ length l.blocks) × (l.start ≡ length (flat (take l.at l.blocks))) × (l.place < length (flat (take (suc l.at) l.blocks)))

abbrev pub decreases-loop-start : goal.decreases-loop-start
decreases-loop-start g l = l.at
