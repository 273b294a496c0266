use Rattle.ipg_cover_leaves.proofs.Agreed as agreed
use Rattle.ipg_cover_leaves.proofs.laws.leaves_agree.Goals as goal

pub returns : goal.returns
returns c = agreed.leaves_agree
