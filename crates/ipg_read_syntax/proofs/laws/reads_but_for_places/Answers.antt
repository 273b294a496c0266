use Rattle.ipg_read_syntax.proofs.Alike as alike
use Rattle.ipg_read_syntax.proofs.laws.reads_but_for_places.Goals as goal

pub returns : goal.returns
returns c = alike.reads_but_for_places
