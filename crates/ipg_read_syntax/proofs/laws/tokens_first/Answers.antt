use Rattle.ipg_read_syntax.proofs.Readings as readings
use Rattle.ipg_read_syntax.proofs.laws.tokens_first.Goals as goal

pub returns : goal.returns
returns c = readings.tokens_first
