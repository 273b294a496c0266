use Rattle.ipg_core.proofs.Height as height
use Rattle.ipg_core.proofs.laws.heights_agree.Goals as goal

pub returns : goal.returns
returns c = height.heights_agree
