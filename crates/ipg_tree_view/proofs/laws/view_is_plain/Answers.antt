use Rattle.ipg_tree_view.proofs.Plain.{view_plain}
use Rattle.ipg_tree_view.proofs.laws.view_is_plain.Goals as goal

pub returns : goal.returns
returns c = view_plain
