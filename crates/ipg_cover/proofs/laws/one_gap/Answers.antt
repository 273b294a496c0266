use Rattle.ipg_cover.proofs.Once as once
use Rattle.ipg_cover.proofs.laws.one_gap.Goals as goal

pub returns : goal.returns
returns c = λ g place other at eoi at_other eoi_other one two. once.one_gap g c.one_limit.ensures place other at eoi at_other eoi_other one two
