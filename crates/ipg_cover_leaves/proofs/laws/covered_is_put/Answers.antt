use Rattle.ipg_cover_leaves.proofs.Covered as covered
use Rattle.ipg_cover_leaves.proofs.laws.covered_is_put.Goals as goal

pub returns : goal.returns
returns c = covered.covered_is_put
