use Rattle.std.proofs.Common.{◌≡◌, List, ℕ, ◌^◌, subst}
use Rattle.ipg_outside.specs.Files.{ReadWhole}
use Rattle.ipg_app_text.specs.Found.{input_in_file, silence}
use Rattle.ipg_app_text.specs.Order.{Order, only}
use Rattle.ipg_app_text.specs.Settles.{Settles}
use Rattle.ipg_app_text.specs.Lines.{said_of}
use Rattle.ipg_app_grammar.specs.Helped.{formats_said}
use Rattle.ipg_app.specs.Reply.{formats, installed}
use Rattle.ipg_app_text.specs.Instead.{said_exits}
use Rattle.ipg_app.proofs.Settling.{no_input_on, read_on}
use Rattle.ipg_app.proofs.settle.settle_formats.Goals as goal

pub returns-in_err-list-clause-settled : goal.returns-in_err-list-clause-settled
returns-in_err-list-clause-settled g c =
    let told = g.F.Files.told c.args.files.now in
    let before = g.F.Files.faults c.args.files.now in
    let after = g.F.Files.faults c.input_in_file.new.files in
    let next : List ℕ → Order = λ list. only (formats_said list) in
    said_exits c.from_residual.result c.in_err-list.field-0.0 (Settles told before after (input_in_file installed (λ input. silence)))
    (Settles told before after formats) c.from_residual.ensures.1
    (λ said h. no_input_on told before after installed next said h) c.in_err-list.ensures.found

pub returns-clause-settled : goal.returns-clause-settled
returns-clause-settled g c =
    let told = g.F.Files.told c.args.files.now in
    let before = g.F.Files.faults c.args.files.now in
    let after = g.F.Files.faults c.input_in_file.new.files in
    let bytes = c.in_ok-list.list.items in
    let whole : ReadWhole (told installed) (2 ^ 30) bytes = c.in_ok-list.ensures.found in
    let next : List ℕ → Order = λ list. only (formats_said list) in
    let said = said_of c.in_ok-say_formats.field-0 in
    read_on told before after installed next said bytes whole.contents whole.within
    (subst (λ b. said ≡ formats_said b) c.deref.ensures.value c.in_ok-say_formats.ensures)
