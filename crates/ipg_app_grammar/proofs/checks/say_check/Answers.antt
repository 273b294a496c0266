use Rattle.std.proofs.Common.{Ok, Err, refl}
use Rattle.ipg_app_grammar.specs.Checks.{Checks}
use Rattle.ipg_app_grammar.specs.Commands.{check}
use Rattle.ipg_app_text.specs.Found.{Says}
use Rattle.ipg_app_text.specs.Instead.{said_exits}
use Rattle.ipg_app_grammar.proofs.checks.say_check.Goals as goal

pub returns-in_err-accepted : goal.returns-in_err-accepted
returns-in_err-accepted c =
    let core = c.args.core in
    said_exits c.from_residual.result c.in_err-accepted.field-0.0 (λ said. Checks core (Err said)) (Says (check core)) c.from_residual.ensures.1
    (λ said h told. (Err said, h, refl)) c.in_err-accepted.ensures.checks

pub returns : goal.returns
returns c = λ told. (Ok c.in_ok-accepted.field-0.0, c.in_ok-accepted.ensures.checks, c.in_ok-line.ensures)
