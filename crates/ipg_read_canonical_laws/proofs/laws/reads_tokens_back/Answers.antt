use Rattle.ipg_read_canonical_laws.proofs.Backs as backs
use Rattle.ipg_read_canonical_laws.proofs.laws.reads_tokens_back.Goals as goal

pub returns : goal.returns
returns c = backs.reads_tokens_back c.reads_but_for_places.ensures
