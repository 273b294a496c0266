use Rattle.ipg_cover_leaves.proofs.Covered as covered
use Rattle.ipg_cover_leaves.proofs.laws.all_put_comes_back.Goals as goal

pub returns : goal.returns
returns c = covered.all_put_comes_back
