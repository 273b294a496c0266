use Rattle.std.proofs.Common.{◌≤◌, arith}
use Rattle.ipg_table.proofs.Turning.{one_run}
use Rattle.ipg_table.proofs.in_hand.lone.Goals as goal

pub returns : goal.returns
returns g c env stands =
    let within : 1 ≤ c.args.room = omega arith in
    one_run env c.args.room c.args.ops.now c.index-ops-0.result c.plain.result c.index-ops-0.is c.if-ops-ne1.false within
    (c.plain.ensures env c.args.room stands)
