use Rattle.std.proofs.Common.{Ok, Err, refl, ap, ◌∙◌}
use Rattle.ipg_proof.specs.Proves.{Proves}
use Rattle.ipg_app_text.specs.Said.{done}
use Rattle.ipg_app_grammar.specs.Checks.{Checks}
use Rattle.ipg_app_grammar.specs.Commands.{cert}
use Rattle.ipg_app_text.specs.Found.{Says}
use Rattle.ipg_app_text.specs.Instead.{said_exits}
use Rattle.ipg_app_grammar.proofs.checks.say_cert.Goals as goal

pub returns-in_err-grammar : goal.returns-in_err-grammar
returns-in_err-grammar c =
    let core = c.args.core in
    said_exits c.from_residual.result c.in_err-grammar.field-0.0 (λ said. Checks core (Err said)) (Says (cert core)) c.from_residual.ensures.1
    (λ said h told. (Err said, h, refl)) c.in_err-grammar.ensures.checks

pub returns : goal.returns
returns c =
    let proves : Proves c.in_ok-grammar.grammar c.in_ok-grammar.certificate = c.in_ok-grammar.ensures.proved in
    λ told. (
      Ok c.in_ok-grammar.grammar,
      c.in_ok-grammar.ensures.checks,
      record {
        certificate = c.in_ok-grammar.certificate;
        proves = proves;
        speakable = c.is_speakable.ensures proves;
        is = c.written.ensures ∙ ap done c.in_ok-cert_text.ensures.text;
      },
    )
