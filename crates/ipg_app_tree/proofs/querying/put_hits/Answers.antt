use Rattle.ipg_app_tree.proofs.Hits.{starts, goes_on, breaks, ends, exits}
use Rattle.ipg_app_tree.proofs.querying.put_hits.Goals as goal

pub loop-hit-init : goal.loop-hit-init
loop-hit-init g c picks h = starts picks _ _ c.args.hits.now h

pub loop-hit-preserved : goal.loop-hit-preserved
loop-hit-preserved g c picks h =
    goes_on picks _ _ c.args.hits.now c.loop-hit.hit-index _ c.loop-hit-test.true _ _
    (c.loop-hit.invariant picks h) _ _ c.in_ok-put_hit.ensures

pub returns-in_err-put_hit : goal.returns-in_err-put_hit
returns-in_err-put_hit g c picks h =
    exits _ c.from_residual.result c.from_residual.ensures.1 _ _ _ _ _
    (breaks picks _ _ c.args.hits.now c.loop-hit.hit-index _ c.loop-hit-test.true _ _
    (c.loop-hit.invariant picks h) _ _ c.in_err-put_hit.ensures)

pub returns : goal.returns
returns g c picks h = ends picks _ _ c.args.hits.now c.loop-hit.hit-index c.loop-hit-test.false _ _ (c.loop-hit.invariant picks h)
