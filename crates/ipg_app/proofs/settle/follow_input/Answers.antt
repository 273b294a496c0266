use Rattle.std.proofs.Common.{List, ℕ, ◌^◌, subst}
use Rattle.ipg_outside.specs.Files.{ReadWhole}
use Rattle.ipg_app_text.specs.Found.{input_in_file, silence}
use Rattle.ipg_app_text.specs.Order.{Order, says}
use Rattle.ipg_app_text.specs.Settles.{Settles}
use Rattle.ipg_app_grammar.specs.Followed.{Cleared, Follows, subject}
use Rattle.ipg_app_text.specs.Lines.{said_of}
use Rattle.ipg_app.specs.Reply.{follow}
use Rattle.ipg_app_text.specs.Instead.{said_exits}
use Rattle.ipg_app.proofs.Settling.{no_input_on, read_on}
use Rattle.ipg_app.proofs.settle.follow_input.Goals as goal

pub returns-in_err-input-clause-settled : goal.returns-in_err-input-clause-settled
returns-in_err-input-clause-settled g c =
    let told = g.F.Files.told c.args.files.now in
    let before = g.F.Files.faults c.args.files.now in
    let after = g.F.Files.faults c.input_in_file.new.files in
    let name = c.args.name.now in
    let text = c.args.text.now in
    let input = c.args.followed.input.now in
    let made : Cleared = (c.args.made.now.grammar, c.args.made.now.core) in
    let next : List ℕ → Order = λ these. says (Follows (subject name text made.0 these) made.1) in
    said_exits c.from_residual.result c.in_err-input.field-0.0 (Settles told before after (input_in_file input (λ input. silence)))
    (Settles told before after (follow name text input made)) c.from_residual.ensures.1
    (λ said h. no_input_on told before after input next said h) c.in_err-input.ensures.found

pub returns-clause-settled : goal.returns-clause-settled
returns-clause-settled g c =
    let told = g.F.Files.told c.args.files.now in
    let before = g.F.Files.faults c.args.files.now in
    let after = g.F.Files.faults c.input_in_file.new.files in
    let name = c.args.name.now in
    let text = c.args.text.now in
    let input = c.args.followed.input.now in
    let made : Cleared = (c.args.made.now.grammar, c.args.made.now.core) in
    let bytes = c.in_ok-input.input.items in
    let whole : ReadWhole (told input) (2 ^ 30) bytes = c.in_ok-input.ensures.found in
    let next : List ℕ → Order = λ these. says (Follows (subject name text made.0 these) made.1) in
    let said = said_of c.in_ok-follow_bytes.field-0 in
    read_on told before after input next said bytes whole.contents whole.within
    (subst (λ b. Follows (subject name text made.0 b) made.1 said) c.deref.ensures.value c.in_ok-follow_bytes.ensures)
