use Rattle.std.proofs.Common.{◌+◌, subst, arith, take, get_or}
use Rattle.std.proofs.lemmas.List.{take_all}
use Rattle.ipg_order.specs.declared.closure.Hand.{Hand}
use Rattle.ipg_order.proofs.Handing.{PassingAll, Handed, all_next, none_passed, all_closed, all_fewer, so_far, is_there}
use Rattle.ipg_order.proofs.closure.hand_on.Goals as goal

pub loop-hand-init : goal.loop-hand-init
loop-hand-init c = record { size = c.requires.size; keeps = λ k h. h; sound = λ keys s. s; pass = none_passed c.args.flags.now.items }

pub loop-hand-preserved : goal.loop-hand-preserved
loop-hand-preserved c =
    let hands = c.args.hands.now in
    let i = c.loop-hand.hand-index in
    let none : Hand = record { caller = 0; callee = 0 } in
    let hand = get_or hands i none in
    let row : Handed c.hand_row-more.result hand c.loop-hand.flags.items c.hand_row-more.new.flags.items =
    record { closed = c.hand_row-more.ensures.closed; fewer = c.hand_row-more.ensures.fewer } in
    record {
      size = c.hand_row-more.ensures.size;
      keeps = λ k h. c.hand_row-more.ensures.keeps k (c.loop-hand.invariant.keeps k h);
      sound = λ keys s. c.hand_row-more.ensures.sound keys hands (is_there hands i none c.loop-hand-test.true) (c.loop-hand.invariant.sound keys s);
      pass = all_next c.loop-hand.more c.hand_row-more.result (take i hands) hand (take (i + 1) hands) c.args.flags.now.items c.loop-hand.flags.items
          c.hand_row-more.new.flags.items
          (λ other m. so_far hands i none other c.loop-hand-test.true m) row c.loop-hand.invariant.pass;
    }

pub returns-clause-closed : goal.returns-clause-closed
returns-clause-closed c = λ e.
    all_closed c.loop-hand.more c.args.hands.now c.args.flags.now.items c.loop-hand.flags.items e
    (subst (λ hands. PassingAll c.loop-hand.more hands c.args.flags.now.items c.loop-hand.flags.items)
    (take_all c.loop-hand.hand-index c.args.hands.now (omega arith)) c.loop-hand.invariant.pass)

pub returns-clause-fewer : goal.returns-clause-fewer
returns-clause-fewer c = λ e. all_fewer c.loop-hand.more (take c.loop-hand.hand-index c.args.hands.now) c.args.flags.now.items c.loop-hand.flags.items
    e c.loop-hand.invariant.pass
