use Rattle.ipg_edit_laws.proofs.Trees as trees
use Rattle.ipg_edit_laws.proofs.laws.later_trees_move.Goals as goal

pub returns : goal.returns
returns c = trees.later_trees_move
