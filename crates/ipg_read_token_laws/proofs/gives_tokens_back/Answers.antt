use Rattle.ipg_read_token_laws.proofs.Back.{back}
use Rattle.ipg_read_token_laws.proofs.gives_tokens_back.Goals as goal

pub returns : goal.returns
returns c = back
