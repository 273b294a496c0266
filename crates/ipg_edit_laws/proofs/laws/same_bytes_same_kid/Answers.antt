use Rattle.ipg_edit_laws.proofs.Trees as trees
use Rattle.ipg_edit_laws.proofs.laws.same_bytes_same_kid.Goals as goal

pub returns : goal.returns
returns c = trees.same_bytes_same_kid
