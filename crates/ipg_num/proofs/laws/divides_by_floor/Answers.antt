use Rattle.ipg_num.proofs.Floors.{divides}
use Rattle.ipg_num.proofs.laws.divides_by_floor.Goals as goal

pub returns : goal.returns
returns c = divides
