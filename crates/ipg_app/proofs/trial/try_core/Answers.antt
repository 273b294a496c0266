use Rattle.std.proofs.Common.{Ok, Err, refl}
use Rattle.ipg_app_grammar.specs.Checks.{Checks}
use Rattle.ipg_app.specs.Reply.{try_core}
use Rattle.ipg_app_text.specs.Found.{Says}
use Rattle.ipg_app_text.specs.Instead.{said_exits}
use Rattle.ipg_app.proofs.trial.try_core.Goals as goal

pub returns-in_err-checked : goal.returns-in_err-checked
returns-in_err-checked c =
    let core = c.args.core in
    said_exits c.from_residual.result c.in_err-checked.field-0.0 (λ said. Checks core (Err said))
    (Says (try_core c.args.name.now c.args.kind c.args.parts core)) c.from_residual.ensures.1 (λ said h told. (Err said, h, refl))
    c.in_err-checked.ensures.checks

pub returns : goal.returns
returns c = λ told. (Ok c.in_ok-checked.checked, c.in_ok-checked.ensures.checks, c.in_ok-tried.ensures)
