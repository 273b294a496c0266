use Rattle.std.proofs.Common.{Ok, Err, refl}
use Rattle.ipg_app_grammar.specs.Certificate.{Reads}
use Rattle.ipg_app_grammar.specs.Commands.{judge}
use Rattle.ipg_app_text.specs.Found.{Says}
use Rattle.ipg_app_text.specs.Instead.{said_exits}
use Rattle.ipg_app_grammar.proofs.verifying.judge.Goals as goal

pub returns-in_err-certificate : goal.returns-in_err-certificate
returns-in_err-certificate c =
    let text = c.args.text.now in
    said_exits c.from_residual.result c.in_err-certificate.field-0.0 (λ said. Reads text (Err said)) (Says (judge text c.args.core)) c.from_residual.ensures.1
    (λ said h told. (Err said, h, refl)) c.in_err-certificate.ensures

pub returns : goal.returns
returns c = λ told. (Ok c.in_ok-certificate.certificate, c.in_ok-certificate.ensures, c.in_ok-judged.ensures)
