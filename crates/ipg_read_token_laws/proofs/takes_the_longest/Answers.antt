use Rattle.ipg_read_token_laws.proofs.Law.{law}
use Rattle.ipg_read_token_laws.proofs.takes_the_longest.Goals as goal

pub returns : goal.returns
returns c = law
