use Rattle.ipg_read_syntax.proofs.Readings as readings
use Rattle.ipg_read_syntax.proofs.laws.one_grammar.Goals as goal

pub returns : goal.returns
returns c = readings.one_grammar
