use Rattle.ipg_table.proofs.Turning.{one_run}
use Rattle.ipg_table.proofs.in_hand.alone.Goals as goal

pub returns-then-ops-eq1 : goal.returns-then-ops-eq1
returns-then-ops-eq1 g c env room stands within =
    one_run env room c.args.ops.now c.index-ops-0.result c.single.result c.index-ops-0.is c.if-ops-eq1.true within (c.single.ensures env room stands)
