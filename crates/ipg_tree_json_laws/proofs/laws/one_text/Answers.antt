use Rattle.ipg_tree_json_laws.proofs.Trees as trees
use Rattle.ipg_tree_json_laws.proofs.laws.one_text.Goals as goal

pub returns : goal.returns
returns c = trees.one_text
