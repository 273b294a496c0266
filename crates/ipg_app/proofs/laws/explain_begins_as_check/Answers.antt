use Rattle.ipg_app.proofs.Explained.{begins}
use Rattle.ipg_app.proofs.laws.explain_begins_as_check.Goals as goal

pub returns : goal.returns
returns c = begins
