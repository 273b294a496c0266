use Rattle.ipg_read_syntax.proofs.Readings as readings
use Rattle.ipg_read_syntax.proofs.laws.limit_place.Goals as goal

pub returns : goal.returns
returns c = readings.limit_place
