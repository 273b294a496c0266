use Rattle.ipg_core.proofs.Holds as holds
use Rattle.ipg_core.proofs.laws.holds_its_bytes.Goals as goal

pub returns : goal.returns
returns c = holds.holds_its_bytes
