use Rattle.std.proofs.Common.{◌++◌, Ok, Err, inl, refl, subst}
use Rattle.ipg_app_tree.specs.Editing.{tree_of, out_of_input}
use Rattle.ipg_app_text.specs.Said.{done}
use Rattle.ipg_app_tree.specs.Out.{GoesOut}
use Rattle.ipg_app_tree.proofs.editing.say_all.Goals as goal

pub returns-in-Ok-clause-done : goal.returns-in-Ok-clause-done
returns-in-Ok-clause-done g c grammar ready =
    let all = c.in-Ok.ensures grammar ready c.requires.each in
    let text = c.in-Ok.told.lines.items ++ tree_of grammar all.answer in
    inl (done text, record { text = Ok text; say = all.say; is = refl }, c.put_told.ensures grammar all.answer all.stand all.shown)

pub returns-in_ok-out_of_input-in-Err-OutOfInput-clause-done :
    goal.returns-in_ok-out_of_input-in-Err-OutOfInput-clause-done
returns-in_ok-out_of_input-in-Err-OutOfInput-clause-done g c grammar ready =
    let at = c.in-Err-OutOfInput.at in
    let say = rw c.in-Err-OutOfInput.field-0-is at (c.in-Err-OutOfInput.ensures grammar ready c.requires.each) in
    let out = c.args.out.now in
    let goes = subst
    (λ said. GoesOut said (g.S.Sink.output out) (g.S.Sink.faults out) (g.S.Sink.output c.say.new.out) (g.S.Sink.faults c.say.new.out) c.say.result)
    c.in_ok-out_of_input-in-Err-OutOfInput.ensures c.say.ensures in
    inl (out_of_input at, record { text = Err at; say = say; is = refl }, goes)
