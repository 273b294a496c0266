use Rattle.std.proofs.Common.{◌≡◌, ◌≤◌, IfSome, arith, rules}
use Rattle.ipg_num.specs.Number.{limited, apply_of}
use Rattle.ipg_num.specs.declared.op.Answer.TheVariants.{Val}
use Rattle.ipg_core.specs.Eval.{on_value}
use Rattle.ipg_table.proofs.Turning.{pair_run}
use Rattle.ipg_table.proofs.in_hand.pair.Goals as goal

pub returns-in_ok-b-in-Two : goal.returns-in_ok-b-in-Two
returns-in_ok-b-in-Two g c env stands =
    let room = c.args.room in
    let within : 2 ≤ room = omega arith in
    let is : IfSome c.applied.result (λ z. on_value (apply_of c.in-Two.op c.in_ok-a-in-Two.a c.in_ok-b-in-Two.b) limited ≡ Val z) = search rules in
    pair_run env room c.args.ops.now c.index-ops-0.result c.index-ops-1.result c.index-ops-2.result c.in-Two.op c.in_ok-a-in-Two.a c.in_ok-b-in-Two.b
    c.applied.result c.if-ops-ne3.false c.index-ops-0.is c.index-ops-1.is c.index-ops-2.is c.in-Two.is within
    (c.in_ok-a-in-Two.ensures env room stands) (c.in_ok-b-in-Two.ensures env room) is
