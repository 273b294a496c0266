use Rattle.std.proofs.Common.{Ok, Err, refl}
use Rattle.ipg_app_grammar.specs.Checks.{Checks}
use Rattle.ipg_app_grammar.specs.Commands.{cover}
use Rattle.ipg_app_text.specs.Found.{Says}
use Rattle.ipg_app_text.specs.Instead.{said_exits}
use Rattle.ipg_app_grammar.proofs.covering.say_cover.Goals as goal

pub returns-in_err-grammar : goal.returns-in_err-grammar
returns-in_err-grammar c =
    let core = c.args.core in
    said_exits c.from_residual.result c.in_err-grammar.field-0.0 (λ said. Checks core (Err said)) (Says (cover core)) c.from_residual.ensures.1
    (λ said h told. (Err said, h, refl)) c.in_err-grammar.ensures.checks

pub returns : goal.returns
returns c = λ told. (Ok c.in_ok-grammar.grammar, c.in_ok-grammar.ensures.checks, c.in_ok-covered.ensures)
