use Rattle.ipg_cover_leaves.proofs.Agreed as agreed
use Rattle.ipg_cover_leaves.proofs.laws.input_comes_back.Goals as goal

pub returns : goal.returns
returns c = agreed.input_comes_back
