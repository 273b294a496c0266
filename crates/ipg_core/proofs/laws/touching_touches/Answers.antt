use Rattle.ipg_core.proofs.Touching as touching
use Rattle.ipg_core.proofs.laws.touching_touches.Goals as goal

pub returns : goal.returns
returns c = touching.touching_touches
