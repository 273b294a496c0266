use Rattle.ipg_cover_leaves.specs.Back.{HasBytes}
use Rattle.ipg_cover_leaves.proofs.Firsts.{AreSoBefore}
use Rattle.ipg_cover_leaves.proofs.back.without_bytes.Given as goal

abbrev pub invariant-loop-n : goal.invariant-loop-n
invariant-loop-n l = AreSoBefore HasBytes l.leaves l.n
