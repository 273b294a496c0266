use Rattle.ipg_tree.specs.Putting.{exits_first}
use Rattle.ipg_tree.proofs.words.put_long.Goals as goal

pub returns-in_err-put_bytes : goal.returns-in_err-put_bytes
returns-in_err-put_bytes g c = exits_first _ c.from_residual.result c.from_residual.ensures.1 _ _ (rw c.first.ensures at c.in_err-put_bytes.ensures)
