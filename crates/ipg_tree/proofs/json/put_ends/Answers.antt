use Rattle.ipg_tree.specs.Putting.{next, exits}
use Rattle.ipg_tree.proofs.Nested.{ends_step}
use Rattle.ipg_tree.proofs.json.put_ends.Goals as goal

pub returns-in_err-put : goal.returns-in_err-put
returns-in_err-put g c =
    exits _ c.from_residual.result c.from_residual.ensures.1 _ (ends_step c.loop-left.left c.loop-left-test.true) c.loop-left.invariant c.in_err-put.ensures

pub loop-left-preserved : goal.loop-left-preserved
loop-left-preserved g c = next (ends_step c.loop-left.left c.loop-left-test.true) c.loop-left.invariant c.in_ok-put.ensures
