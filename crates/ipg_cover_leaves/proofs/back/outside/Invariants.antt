use Rattle.ipg_cover_leaves.specs.Back.{IsInside}
use Rattle.ipg_cover_leaves.proofs.Firsts.{AreSoBefore}
use Rattle.ipg_cover_leaves.proofs.back.outside.Given as goal

abbrev pub invariant-loop-n : goal.invariant-loop-n
invariant-loop-n l = AreSoBefore (IsInside l.len) l.leaves l.n
