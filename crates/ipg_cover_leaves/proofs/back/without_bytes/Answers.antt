use Rattle.ipg_cover_leaves.specs.Back.{HasBytes}
use Rattle.ipg_cover_leaves.proofs.Firsts.{all_so}
use Rattle.ipg_cover_leaves.proofs.back.without_bytes.Goals as goal

pub returns : goal.returns
returns c = all_so HasBytes c.args.leaves.now c.loop-n.n c.loop-n-test.false c.loop-n.invariant
