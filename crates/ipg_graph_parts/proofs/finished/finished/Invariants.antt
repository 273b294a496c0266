use Rattle.ipg_graph_parts.specs.Finished.{IsWalk, moves_left}
use Rattle.ipg_graph_parts.proofs.finished.finished.Given as goal

abbrev pub invariant-loop-next : goal.invariant-loop-next
invariant-loop-next l = IsWalk l.links l.walk

abbrev pub decreases-loop-next : goal.decreases-loop-next
decreases-loop-next l = moves_left l.links l.walk
