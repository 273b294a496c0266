use Rattle.std.proofs.Common.{◌≡◌, ◌≤◌, Some, length, arith, rules}
use Rattle.ipg_num.specs.Number.{limited, apply_of}
use Rattle.ipg_num.specs.declared.op.Answer.TheVariants.{Val}
use Rattle.ipg_core.specs.Eval.{on_value}
use Rattle.ipg_table.specs.Stack.{Puts}
use Rattle.ipg_table.proofs.Handing.{two_lead}
use Rattle.ipg_table.proofs.in_hand.joined.Goals as goal

pub returns-in_ok-value-in-Two : goal.returns-in_ok-value-in-Two
returns-in_ok-value-in-Two g c env room stands within =
    let a = c.args.a in
    let b = c.in_ok-b-in-Two.b in
    let z = c.in_ok-value-in-Two.value in
    let two : 2 ≤ length c.args.rows.now = omega arith in
    let gives : on_value (apply_of c.in-Two.op a b) limited ≡ Val z = search rules in
    let number : c.held.result.number ≡ Some z = search rules in
    two_lead env room c.args.rows.now c.index-rows-0.result c.index-rows-1.result c.in-Two.op a b z c.held.result two c.index-rows-0.is c.index-rows-1.is
    c.in-Two.is within (c.in_ok-b-in-Two.ensures env room stands) gives number c.held.ensures.skip
