use Rattle.std.proofs.Common.{List, ℕ, ◌^◌, subst}
use Rattle.ipg_outside.specs.Files.{ReadWhole}
use Rattle.ipg_app_text.specs.Found.{input_in_file, silence}
use Rattle.ipg_app_text.specs.Order.{Order}
use Rattle.ipg_app_text.specs.Settles.{Settles}
use Rattle.ipg_app.specs.Reply.{edit_input, edits_of}
use Rattle.ipg_app.specs.Settled.{IsReplied}
use Rattle.ipg_app.proofs.Settling.{no_input_on, read_goes_on}
use Rattle.ipg_app.proofs.Replying.{replied_on, reply_exits}
use Rattle.ipg_app.proofs.settle.edit_input.Goals as goal

pub returns-in_err-text-clause-settled : goal.returns-in_err-text-clause-settled
returns-in_err-text-clause-settled g c =
    let told = g.F.Files.told c.args.files.now in
    let before = g.F.Files.faults c.args.files.now in
    let after = g.F.Files.faults c.input_in_file.new.files in
    let name = c.args.script.now in
    let input = c.args.input.items in
    let next : List ℕ → Order = λ text. edits_of text c.args.grammar input in
    reply_exits told before after (edit_input name c.args.grammar input) c.from_residual.result c.in_err-text.field-0.0
    (Settles told before after (input_in_file name (λ input. silence))) c.from_residual.ensures.1
    (λ said h. no_input_on told before after name next said h) c.in_err-text.ensures.found

pub returns-clause-settled : goal.returns-clause-settled
returns-clause-settled g c =
    let told = g.F.Files.told c.args.files.now in
    let before = g.F.Files.faults c.args.files.now in
    let after = g.F.Files.faults c.input_in_file.new.files in
    let name = c.args.script.now in
    let input = c.args.input.items in
    let next : List ℕ → Order = λ text. edits_of text c.args.grammar input in
    let bytes = c.in_ok-text.text.items in
    let whole : ReadWhole (told name) (2 ^ 30) bytes = c.in_ok-text.ensures.found in
    replied_on told before after (edit_input name c.args.grammar input) told before after (next bytes) c.edits_of.result
    (λ said h. read_goes_on told before after name next said bytes whole.contents whole.within h)
    (subst (λ b. IsReplied told before after (next b) c.edits_of.result) c.deref.ensures.value (c.edits_of.ensures told before after))
