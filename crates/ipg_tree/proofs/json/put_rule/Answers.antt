use Rattle.std.proofs.Common.{refl}
use Rattle.ipg_tree.specs.Putting.{begun, more, next, exits, ended}
use Rattle.ipg_tree.proofs.json.put_rule.Goals as goal

pub returns-in_err-put : goal.returns-in_err-put
returns-in_err-put g c = exits _ c.from_residual.result c.from_residual.ensures.1 _ refl (begun _ _ _) c.in_err-put.ensures

pub returns-in_err-put-2 : goal.returns-in_err-put-2
returns-in_err-put-2 g c =
    exits _ c.from_residual-in_err-put-2.result c.from_residual-in_err-put-2.ensures.1 _ refl (next refl (begun _ _ _) c.in_ok-put.ensures)
    c.in_err-put-2.ensures

pub returns : goal.returns
returns g c = ended c.put_places.result _ _ (more (next refl (begun _ _ _) c.in_ok-put.ensures) c.in_ok-put-2.ensures) c.put_places.ensures
