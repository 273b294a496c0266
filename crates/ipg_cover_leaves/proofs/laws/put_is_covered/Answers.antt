use Rattle.ipg_cover_leaves.proofs.Covered as covered
use Rattle.ipg_cover_leaves.proofs.laws.put_is_covered.Goals as goal

pub returns : goal.returns
returns c = covered.put_is_covered
