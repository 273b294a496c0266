use Rattle.ipg_app_values.proofs.Alike.{noted_somehow}
use Rattle.ipg_app_values.proofs.laws.noted_somehow.Goals as goal

pub returns : goal.returns
returns c = noted_somehow
