use Rattle.std.proofs.Common.{append_assoc}
use Rattle.std.specs.Prelude.{codes}
use Rattle.std.specs.Fmt.{signed_decimal}
use Rattle.ipg_tree.specs.Putting.{begun, exits}
use Rattle.ipg_tree.proofs.words.put_attr.Goals as goal

pub returns-in_err-put : goal.returns-in_err-put
returns-in_err-put g c =
    exits _ c.from_residual.result c.from_residual.ensures.1 _ (append_assoc c.args.name.now (codes "=") (signed_decimal c.args.n)) (begun _ _ _)
    c.in_err-put.ensures
