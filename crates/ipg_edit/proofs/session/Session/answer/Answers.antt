use Rattle.std.proofs.Common.{subst, ap}
use Rattle.ipg_core.specs.Meaning.{Means}
use Rattle.ipg_edit.specs.Answered.{Answers}
use Rattle.ipg_edit.specs.Session.{Seen, holding, Knows}
use Rattle.ipg_edit.proofs.Answering as answering
use Rattle.ipg_edit.proofs.session.Session.answer.Goals as goal

pub returns-clause-ok : goal.returns-clause-ok
returns-clause-ok g c = λ grammar kept answer.
    let inside = c.self.inside in
    let t = inside.tables.now in
    let s = inside.input.items in
    let given = c.in_ok-given.given in
    let later = holding c.replace.new.dest in
    let are = answering.answered_there t c.as_slice.result.now s (holding c.replace-state.result) (holding inside.state) given
    (holding c.in_ok-given.state) later c.as_slice.ensures.value (ap holding c.replace-state.ensures.value)
    (ap holding c.replace.ensures.after) c.in_ok-given.ensures in
    subst (λ (x : Seen). Knows grammar kept x → Means grammar x.input answer
    → Answers grammar x.input kept answer given (record { tables = t; input = s; holding = later })) c.self.view_is (are.answers grammar kept answer)
