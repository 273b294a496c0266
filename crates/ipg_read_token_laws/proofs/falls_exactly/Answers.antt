use Rattle.ipg_read_token_laws.proofs.Falls.{exactly}
use Rattle.ipg_read_token_laws.proofs.falls_exactly.Goals as goal

pub returns : goal.returns
returns c = exactly
