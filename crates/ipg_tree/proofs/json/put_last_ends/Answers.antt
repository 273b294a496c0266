use Rattle.ipg_tree.specs.Putting.{exits_first}
use Rattle.ipg_tree.proofs.json.put_last_ends.Goals as goal

pub returns-in_err-put_ends : goal.returns-in_err-put_ends
returns-in_err-put_ends g c = exits_first _ c.from_residual.result c.from_residual.ensures.1 _ _ c.in_err-put_ends.ensures
