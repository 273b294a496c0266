use Rattle.ipg_edit_laws.proofs.Trees as trees
use Rattle.ipg_edit_laws.proofs.laws.earlier_trees_stay.Goals as goal

pub returns : goal.returns
returns c = trees.earlier_trees_stay
