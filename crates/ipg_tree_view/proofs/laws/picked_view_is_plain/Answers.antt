use Rattle.ipg_tree_view.proofs.Plain.{picked_plain}
use Rattle.ipg_tree_view.proofs.laws.picked_view_is_plain.Goals as goal

pub returns : goal.returns
returns c = picked_plain
