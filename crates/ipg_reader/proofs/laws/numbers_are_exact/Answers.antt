use Rattle.ipg_reader.proofs.Numbers.{short_exact, long_exact, signed_exact}
use Rattle.ipg_reader.proofs.laws.numbers_are_exact.Goals as goal

pub returns-clause-short : goal.returns-clause-short
returns-clause-short c = short_exact

pub returns-clause-long : goal.returns-clause-long
returns-clause-long c = long_exact

pub returns-clause-signed : goal.returns-clause-signed
returns-clause-signed c = signed_exact
