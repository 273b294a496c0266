use Rattle.std.proofs.Common.{◌∙◌, ap}
use Rattle.ipg_reader.specs.Stepwise.{last, first_fault, no_fault_of, found, same_found, stuck_at, end_at}
use Rattle.ipg_edit_script.specs.Reader.{start, step, ended}
use Rattle.ipg_edit_script.specs.Reading.{seen}
use Rattle.ipg_edit_script.proofs.Answered.{reader}
use Rattle.ipg_edit_script.proofs.reading.read.Goals as goal

pub returns-then-not-branch-clause-is : goal.returns-then-not-branch-clause-is
returns-then-not-branch-clause-is c =
    let here = c.loop-next in
    first_fault reader c.args.text.now here.next
    (stuck_at step ended start c.args.text.now here.next (seen here.reader) here.invariant.0 _ _ _ c.loop-next-test.true
    c.in_ok-take.ensures c.if-not-branch.true)

pub returns-then-not-branch-clause-back : goal.returns-then-not-branch-clause-back
returns-then-not-branch-clause-back c edits script =
    let here = c.loop-next in
    absurd (no_fault_of reader c.args.text.now here.next edits
    (stuck_at step ended start c.args.text.now here.next (seen here.reader) here.invariant.0 _ _ _ c.loop-next-test.true
    c.in_ok-take.ensures c.if-not-branch.true) script.each script.written)

pub returns-in-Some-clause-is : goal.returns-in-Some-clause-is
returns-in-Some-clause-is c =
    let here = c.loop-next in
    let is = found reader c.args.text.now c.in-Some.edits
    (end_at step ended start c.args.text.now here.next _ here.invariant.0 c.finish.result c.loop-next-test.false c.finish.ensures
    ∙ ap (λ o. last o here.next) c.in-Some.is) in
    record { each = is.0; written = is.1 }

pub returns-in-Some-clause-back : goal.returns-in-Some-clause-back
returns-in-Some-clause-back c edits script =
    let here = c.loop-next in
    same_found reader c.args.text.now c.in-Some.edits edits
    (end_at step ended start c.args.text.now here.next _ here.invariant.0 c.finish.result c.loop-next-test.false c.finish.ensures
    ∙ ap (λ o. last o here.next) c.in-Some.is) script.each script.written

pub returns-in-None-clause-is : goal.returns-in-None-clause-is
returns-in-None-clause-is c =
    let here = c.loop-next in
    first_fault reader c.args.text.now here.next
    (end_at step ended start c.args.text.now here.next _ here.invariant.0 c.finish.result c.loop-next-test.false c.finish.ensures
    ∙ ap (λ o. last o here.next) c.in-None.is)

pub returns-in-None-clause-back : goal.returns-in-None-clause-back
returns-in-None-clause-back c edits script =
    let here = c.loop-next in
    absurd (no_fault_of reader c.args.text.now here.next edits
    (end_at step ended start c.args.text.now here.next _ here.invariant.0 c.finish.result c.loop-next-test.false c.finish.ensures
    ∙ ap (λ o. last o here.next) c.in-None.is) script.each script.written)
