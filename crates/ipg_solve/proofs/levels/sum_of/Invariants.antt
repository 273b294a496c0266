use Rattle.std.proofs.Common.{◌≡◌, ◌++◌, drop, map}
use Rattle.ipg_solve.specs.Edges.{entries_of}
use Rattle.ipg_solve.specs.Widened.{moved}
use Rattle.ipg_solve.proofs.levels.sum_of.Given as goal

abbrev pub invariant-loop-fact : goal.invariant-loop-fact
invariant-loop-fact l = l.entries ++ entries_of (map (moved l.kept l.more) (drop l.fact-index l.facts)) ≡ entries_of (map (moved l.kept l.more) l.facts)
