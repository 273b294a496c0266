use Rattle.ipg_app_values.proofs.Alike.{noted_once}
use Rattle.ipg_app_values.proofs.laws.noted_once.Goals as goal

pub returns : goal.returns
returns c = noted_once c.tells_once.ensures
