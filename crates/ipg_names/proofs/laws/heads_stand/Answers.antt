use Rattle.ipg_names.proofs.Refusals.{heads_stand}
use Rattle.ipg_names.proofs.laws.heads_stand.Goals as goal

pub returns : goal.returns
returns c = heads_stand
