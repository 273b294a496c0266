use Rattle.ipg_read_syntax.proofs.Readings as readings
use Rattle.ipg_read_syntax.proofs.laws.reads_exactly.Goals as goal

pub returns : goal.returns
returns c = readings.reads_exactly
