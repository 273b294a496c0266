use Rattle.ipg_read_token_laws.proofs.One.{one}
use Rattle.ipg_read_token_laws.proofs.spells_one.Goals as goal

pub returns : goal.returns
returns c = one
