use Rattle.ipg_solve.specs.Edges.{AreHeights}
use Rattle.ipg_solve.proofs.levels.heights.Given as goal

abbrev pub invariant-loop-x : goal.invariant-loop-x
invariant-loop-x l = AreHeights l.x l.levels l.values
