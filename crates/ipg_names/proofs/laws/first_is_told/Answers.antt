use Rattle.ipg_names.proofs.Told.{first_told}
use Rattle.ipg_names.proofs.laws.first_is_told.Goals as goal

pub returns : goal.returns
returns c = first_told
