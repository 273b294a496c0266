use Rattle.std.proofs.Common.{◌≤◌, length}
use Rattle.ipg_graph_parts.specs.Chain.{IsLinked}
use Rattle.ipg_graph_parts.proofs.chain.Chain.new.Given as goal

abbrev pub invariant-loop-at : goal.invariant-loop-at
invariant-loop-at l = (l.at ≤ length l.keys.items) × IsLinked (record { keys = l.keys.items; limit = l.limit }) l.firsts.items l.nexts.items l.at

abbrev pub decreases-loop-at : goal.decreases-loop-at
decreases-loop-at l = l.at
