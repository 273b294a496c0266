use Rattle.ipg_names.proofs.Refusals.{first_refused}
use Rattle.ipg_names.proofs.laws.first_is_refused.Goals as goal

pub returns : goal.returns
returns c = first_refused
