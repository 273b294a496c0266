use Rattle.std.proofs.Common.{Err, refl, ap}
use Rattle.ipg_app_tree.proofs.Told.{allowed, stepped, stopped}
use Rattle.ipg_app_tree.proofs.telling.step.Goals as goal

pub returns-in-Ok : goal.returns-in-Ok
returns-in-Ok g c grammar kept ready one =
    let edit = c.args.edit.now in
    let mid = c.tell.new.session in
    let out = rw c.as_slice.ensures at c.in-Ok.ensures.out in
    let allows = allowed mid.input edit.from edit.to edit.with (λ not. let e = out.1 not in absurd (cc)) in
    stepped grammar c.args.k kept edit c.in_ok-tell.field-0 c.args.session.now mid c.edit.new.self c.args.lines.now.items c.tell.new.lines.items
    (c.in_ok-tell.ensures.told grammar kept ready) c.in_ok-tell.ensures.input one allows (rw c.as_slice.ensures at c.in-Ok.ensures.ok)

pub returns-in-Err-OutOfInput : goal.returns-in-Err-OutOfInput
returns-in-Err-OutOfInput g c grammar kept ready one =
    let out = rw c.as_slice.ensures at c.in-Err-OutOfInput.ensures.out in
    let told = c.in_ok-tell.ensures.told grammar kept ready in
    let not = out.0 (ap Err c.in-Err-OutOfInput.field-0-is) in (
      refl,
      stopped grammar c.args.k kept c.args.edit.now c.in_ok-tell.field-0 c.args.session.now c.tell.new.session c.edit.new.self
          c.args.lines.now.items c.tell.new.lines.items told c.in_ok-tell.ensures.input not,
    )
