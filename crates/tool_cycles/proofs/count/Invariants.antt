use Rattle.tool_cycles.proofs.count.Given as goal

abbrev pub decreases-loop-found : goal.decreases-loop-found
decreases-loop-found l = l.cycles.left
