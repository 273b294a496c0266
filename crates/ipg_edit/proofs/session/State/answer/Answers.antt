use Rattle.std.proofs.Common.{sym, subst}
use Rattle.std.proofs.lemmas.Result.{IfOk-weaker}
use Rattle.ipg_edit.specs.Answered.{AreAnswers, answer_by}
use Rattle.ipg_edit.specs.Session.{holding}
use Rattle.ipg_edit.proofs.session.State.answer.Goals as goal

pub returns : goal.returns
returns g c =
    IfOk-weaker c.after_parse.result _ _
    (λ given is.
    let t = c.args.tables.now in
    let s = c.args.input.now in
    let h = holding c.args.self in
    subst (λ x. AreAnswers t s h x (holding given.1)) (sym is.0)
    (subst (AreAnswers t s h (answer_by c.in_ok-verdict.verdict)) (sym is.1) c.in_ok-verdict.ensures))
    c.after_parse.ensures
