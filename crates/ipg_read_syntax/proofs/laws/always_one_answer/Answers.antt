use Rattle.ipg_read_syntax.proofs.Readings as readings
use Rattle.ipg_read_syntax.proofs.laws.always_one_answer.Goals as goal

pub returns : goal.returns
returns c = readings.always_one_answer
