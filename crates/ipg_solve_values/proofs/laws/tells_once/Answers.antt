use Rattle.ipg_solve_values.proofs.OtherValues.{tells_once}
use Rattle.ipg_solve_values.proofs.laws.tells_once.Goals as goal

pub returns : goal.returns
returns c = tells_once
