use Rattle.ipg_read_syntax.proofs.Places as places
use Rattle.ipg_read_syntax.proofs.laws.limit_is_least.Goals as goal

pub returns : goal.returns
returns c = places.limit_is_least
