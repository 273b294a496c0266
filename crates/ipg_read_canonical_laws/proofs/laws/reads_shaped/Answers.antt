use Rattle.ipg_read_canonical_laws.proofs.Shapes as shapes
use Rattle.ipg_read_canonical_laws.proofs.laws.reads_shaped.Goals as goal

pub returns : goal.returns
returns c = shapes.reads_shaped
