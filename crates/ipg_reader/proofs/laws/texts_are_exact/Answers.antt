use Rattle.ipg_reader.proofs.Numbers.{texts_exact}
use Rattle.ipg_reader.proofs.laws.texts_are_exact.Goals as goal

pub returns : goal.returns
returns c = texts_exact
