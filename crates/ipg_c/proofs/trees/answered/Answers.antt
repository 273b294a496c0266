use Rattle.std.proofs.Common.{arith}
use Rattle.ipg_c.proofs.Batches.{go_on}
use Rattle.ipg_c.proofs.trees.answered.Goals as goal

pub loop-input-preserved : goal.loop-input-preserved
loop-input-preserved c =
    let it = c.in_ok-answer.ensures in
    go_on c.args.format.now c.args.inputs.now c.loop-input.input-index _ c.loop-input.answers.items c.push.new.self.items c.loop-input.rows.items
    c.answer.new.rows.items it.0 c.in_ok-answer.answer (omega (arith, c.loop-input-test.true)) c.loop-input.invariant it.1 it.2 c.in_ok-push.ensures.items
