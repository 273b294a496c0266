use Rattle.ipg_names.proofs.Refusals.{faults_stand}
use Rattle.ipg_names.proofs.laws.faults_stand.Goals as goal

pub returns : goal.returns
returns c = faults_stand
