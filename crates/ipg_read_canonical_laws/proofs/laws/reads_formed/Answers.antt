use Rattle.ipg_read_canonical_laws.proofs.Formed as formed
use Rattle.ipg_read_canonical_laws.proofs.laws.reads_formed.Goals as goal

pub returns : goal.returns
returns c = formed.reads_formed
