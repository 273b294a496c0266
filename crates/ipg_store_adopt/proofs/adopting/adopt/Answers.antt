use Rattle.std.proofs.Common.{subst}
use Rattle.ipg_complete.specs.Unordered.{core_of}
use Rattle.ipg_order.specs.Answer.{OrderStops}
use Rattle.ipg_store_adopt.proofs.Bodies.{ill_formed, none_ill, ordered, stuck, one_grammar}
use Rattle.ipg_store_adopt.proofs.adopting.adopt.Goals as goal

pub returns-then-not-branch-clause-is : goal.returns-then-not-branch-clause-is
returns-then-not-branch-clause-is c =
    none_ill c.formed_without_orders.ensures c.args.body (ill_formed _ c.as_slice.result.now c.as_slice-2.result.now c.args.body
    c.in_ok-is_well_formed.ensures c.as_slice.ensures c.as_slice-2.ensures c.if-not-branch.true)

pub returns-then-not-branch-clause-back : goal.returns-then-not-branch-clause-back
returns-then-not-branch-clause-back c g is =
    absurd (none_ill c.formed_without_orders.ensures c.args.body (ill_formed _ c.as_slice.result.now c.as_slice-2.result.now c.args.body
    c.in_ok-is_well_formed.ensures c.as_slice.ensures c.as_slice-2.ensures c.if-not-branch.true) g is)

pub returns-in-Ok-clause-is : goal.returns-in-Ok-clause-is
returns-in-Ok-clause-is c =
    (c.rules.ensures.good, ordered c.args.body c.requires.fits c.in_ok-completed.field-0 c.in-Ok.core c.in_ok-completed.ensures c.in-Ok.ensures.ok)

pub returns-in-Ok-clause-back : goal.returns-in-Ok-clause-back
returns-in-Ok-clause-back c g is =
    one_grammar c.orders_once.ensures c.args.body c.in-Ok.core g
    (c.rules.ensures.good, ordered c.args.body c.requires.fits c.in_ok-completed.field-0 c.in-Ok.core c.in_ok-completed.ensures c.in-Ok.ensures.ok) is

pub returns-in-Err-Circular-clause-is : goal.returns-in-Err-Circular-clause-is
returns-in-Err-Circular-clause-is c =
    let made = c.in_ok-completed.field-0 in
    let stops = subst (OrderStops (core_of made)) c.in-Err-Circular.field-0-is c.in-Err-Circular.ensures.err in
    stuck c.good_is_not_stuck.ensures c.args.body c.requires.fits made (c.in-Err-Circular.field-0-0, c.in-Err-Circular.field-0-1) c.in-Err-Circular.field-0-2
    c.in_ok-completed.ensures stops

pub returns-in-Err-Circular-clause-back : goal.returns-in-Err-Circular-clause-back
returns-in-Err-Circular-clause-back c g is =
    let made = c.in_ok-completed.field-0 in
    let stops = subst (OrderStops (core_of made)) c.in-Err-Circular.field-0-is c.in-Err-Circular.ensures.err in
    absurd (stuck c.good_is_not_stuck.ensures c.args.body c.requires.fits made (c.in-Err-Circular.field-0-0, c.in-Err-Circular.field-0-1)
    c.in-Err-Circular.field-0-2 c.in_ok-completed.ensures stops g is)
