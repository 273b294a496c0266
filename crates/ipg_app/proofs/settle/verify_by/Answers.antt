use Rattle.std.proofs.Common.{List, ℕ, ◌^◌, subst}
use Rattle.ipg_outside.specs.Files.{ReadWhole}
use Rattle.ipg_app_text.specs.Found.{input_in_file, silence}
use Rattle.ipg_app_text.specs.Order.{Order}
use Rattle.ipg_app_text.specs.Settles.{Settles}
use Rattle.ipg_app_text.specs.Early.{IsSaid}
use Rattle.ipg_app_text.specs.Found.{Says}
use Rattle.ipg_app.specs.Reply.{verify}
use Rattle.ipg_app_grammar.specs.Commands.{judge}
use Rattle.ipg_app_text.specs.Instead.{said_exits, said_on}
use Rattle.ipg_app.proofs.Settling.{no_input_on, read_on}
use Rattle.ipg_app.proofs.settle.verify_by.Goals as goal

pub returns-in_err-text-clause-settled : goal.returns-in_err-text-clause-settled
returns-in_err-text-clause-settled g c =
    let told = g.F.Files.told c.args.files.now in
    let before = g.F.Files.faults c.args.files.now in
    let after = g.F.Files.faults c.input_in_file.new.files in
    let name = c.args.certificate.now in
    let core = c.args.core in
    let next : List ℕ → Order = λ text. judge text core in
    said_exits c.from_residual.result c.in_err-text.field-0.0 (Settles told before after (input_in_file name (λ input. silence)))
    (Settles told before after (verify name core)) c.from_residual.ensures.1
    (λ said h. no_input_on told before after name next said h) c.in_err-text.ensures.found

pub returns-clause-settled : goal.returns-clause-settled
returns-clause-settled g c =
    let told = g.F.Files.told c.args.files.now in
    let before = g.F.Files.faults c.args.files.now in
    let after = g.F.Files.faults c.input_in_file.new.files in
    let name = c.args.certificate.now in
    let core = c.args.core in
    let next : List ℕ → Order = λ text. judge text core in
    let bytes = c.in_ok-text.text.items in
    let whole : ReadWhole (told name) (2 ^ 30) bytes = c.in_ok-text.ensures.found in
    said_on c.judge.result (Says (judge bytes core)) (Settles told before after (verify name core))
    (λ said h. read_on told before after name next said bytes whole.contents whole.within (h told))
    (subst (λ b. IsSaid c.judge.result (Says (judge b core))) c.deref.ensures.value c.judge.ensures)
