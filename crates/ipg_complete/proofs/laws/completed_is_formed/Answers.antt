use Rattle.ipg_complete.proofs.Keeping.{whole}
use Rattle.ipg_complete.proofs.laws.completed_is_formed.Goals as goal

pub returns : goal.returns
returns c = whole
