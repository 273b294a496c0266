use Rattle.std.proofs.Common.{◌≡◌, ◌<◌, ◌∙◌, subst, arith, length}
use Rattle.ipg_order.specs.Closure.{flag}
use Rattle.ipg_order.proofs.Handing.{Passing, step_size, step_keeps, step_sound, passing_next, nothing_passed, passed_closed, passed_fewer}
use Rattle.ipg_order.proofs.closure.hand_row.Goals as goal

pub loop-column-init : goal.loop-column-init
loop-column-init c = record { size = c.requires.size; keeps = λ k h. h; sound = λ keys hands m s. s; pass = nothing_passed c.args.hand c.args.flags.now.items }

pub loop-column-preserved : goal.loop-column-preserved
loop-column-preserved c =
    let old = c.loop-column.flags.items in
    let new = c.step-more.new.flags.items in
    let from = flag c.args.hand.callee c.loop-column.column in
    let to = flag c.args.hand.caller c.loop-column.column in
    let below : c.loop-column.column < 256 = c.loop-column-test.true in
    let room : to < length old = let a = c.requires.row.0 in let b = c.loop-column.invariant.size in omega arith in
    record {
      size = step_size c.step-more.result old from to new c.step-more.ensures ∙ c.loop-column.invariant.size;
      keeps = λ k h. step_keeps c.step-more.result old from to new c.step-more.ensures k (c.loop-column.invariant.keeps k h);
      sound = λ keys hands m s. step_sound c.step-more.result old c.args.hand c.loop-column.column new below c.step-more.ensures keys hands m
          (c.loop-column.invariant.sound keys hands m s);
      pass = passing_next c.loop-column.more c.step-more.result c.args.hand c.loop-column.column c.args.flags.now.items old new room
          c.step-more.ensures c.loop-column.invariant.pass;
    }

pub returns-clause-closed : goal.returns-clause-closed
returns-clause-closed c = λ e.
    let end : c.loop-column.column ≡ 256 = omega arith in
    passed_closed c.loop-column.more c.args.hand 256 c.args.flags.now.items c.loop-column.flags.items e
    (subst (λ n. Passing c.loop-column.more c.args.hand n c.args.flags.now.items c.loop-column.flags.items) end c.loop-column.invariant.pass)

pub returns-clause-fewer : goal.returns-clause-fewer
returns-clause-fewer c = λ e. passed_fewer c.loop-column.more c.args.hand c.loop-column.column c.args.flags.now.items c.loop-column.flags.items e
    c.loop-column.invariant.pass
