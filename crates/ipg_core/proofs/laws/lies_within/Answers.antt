use Rattle.ipg_core.proofs.Within as within
use Rattle.ipg_core.proofs.laws.lies_within.Goals as goal

pub returns : goal.returns
returns c = within.lies_within
