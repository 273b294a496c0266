use Rattle.std.proofs.Common.{Ok, Err, refl, sym, subst}
use Rattle.std.specs.List.{AllByRecursion}
use Rattle.ipg_core.specs.Grammar.{Grammar}
use Rattle.ipg_proof.specs.Proves.{Proves}
use Rattle.ipg_store_body.specs.Fits.{NestsRule}
use Rattle.ipg_app_grammar.specs.Checks.{Checks}
use Rattle.ipg_app_grammar.specs.Commands.{table}
use Rattle.ipg_app_text.specs.Found.{Says}
use Rattle.ipg_app_text.specs.Instead.{said_exits}
use Rattle.ipg_app_grammar.proofs.checks.say_table.Goals as goal

pub returns-in_err-grammar : goal.returns-in_err-grammar
returns-in_err-grammar c =
    let core = c.args.core in
    said_exits c.from_residual.result c.in_err-grammar.field-0.0 (λ said. Checks core (Err said)) (Says (table core)) c.from_residual.ensures.1
    (λ said h told. (Err said, h, refl)) c.in_err-grammar.ensures.checks

pub save-requires : goal.save-requires
save-requires c =
    let same = c.in_ok-grammar.grammar in
    let checks : Checks c.args.core (Ok same) = c.in_ok-grammar.ensures.checks in
    subst (λ (g : Grammar). AllByRecursion NestsRule g.rules) (sym checks.0) c.requires

pub returns : goal.returns
returns c =
    let proves : Proves c.in_ok-grammar.grammar c.in_ok-grammar.certificate = c.in_ok-grammar.ensures.proved in
    λ told. (
      Ok c.in_ok-grammar.grammar,
      c.in_ok-grammar.ensures.checks,
      record {
        certificate = c.in_ok-grammar.certificate;
        file = c.in_ok-save.field-0.items;
        holds = c.in_ok-save.ensures.holds proves;
        is = c.written.ensures;
      },
    )
