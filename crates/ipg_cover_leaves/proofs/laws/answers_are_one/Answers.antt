use Rattle.ipg_cover_leaves.proofs.Agreed as agreed
use Rattle.ipg_cover_leaves.proofs.laws.answers_are_one.Goals as goal

pub returns : goal.returns
returns c = agreed.answers_are_one
