use Rattle.ipg_read_syntax.proofs.Readings as readings
use Rattle.ipg_read_syntax.proofs.laws.syntax_place.Goals as goal

pub returns : goal.returns
returns c = readings.syntax_place
