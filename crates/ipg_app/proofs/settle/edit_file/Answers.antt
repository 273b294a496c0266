use Rattle.std.proofs.Common.{List, ℕ, ◌^◌}
use Rattle.ipg_outside.specs.Files.{ReadWhole}
use Rattle.ipg_app_text.specs.Found.{input_in_file, silence}
use Rattle.ipg_app_text.specs.Order.{Order}
use Rattle.ipg_app_text.specs.Settles.{Settles}
use Rattle.ipg_app.specs.Reply.{edit_file, edit_input}
use Rattle.ipg_app.proofs.Settling.{no_input_on, read_goes_on, settles_then}
use Rattle.ipg_app.proofs.Replying.{replied_on, reply_exits}
use Rattle.ipg_app.proofs.settle.edit_file.Goals as goal

pub edit_input-requires : goal.edit_input-requires
edit_input-requires g c =
    let whole : ReadWhole (g.F.Files.told c.args.files.now c.args.input.now) (2 ^ 30) c.in_ok-input.input.items = c.in_ok-input.ensures.found in
    whole.within

pub returns-in_err-input-clause-settled : goal.returns-in_err-input-clause-settled
returns-in_err-input-clause-settled g c =
    let told = g.F.Files.told c.args.files.now in
    let before = g.F.Files.faults c.args.files.now in
    let after = g.F.Files.faults c.input_in_file.new.files in
    let name = c.args.input.now in
    let next : List ℕ → Order = edit_input c.args.script.now c.args.grammar in
    reply_exits told before after (edit_file c.args.input.now c.args.script.now c.args.grammar) c.from_residual.result c.in_err-input.field-0.0
    (Settles told before after (input_in_file name (λ input. silence))) c.from_residual.ensures.1
    (λ said h. no_input_on told before after name next said h) c.in_err-input.ensures.found

pub returns-clause-settled : goal.returns-clause-settled
returns-clause-settled g c =
    let told = g.F.Files.told c.args.files.now in
    let before = g.F.Files.faults c.args.files.now in
    let then = g.F.Files.told c.input_in_file.new.files in
    let between = g.F.Files.faults c.input_in_file.new.files in
    let after = g.F.Files.faults c.edit_input.new.files in
    let name = c.args.input.now in
    let next : List ℕ → Order = edit_input c.args.script.now c.args.grammar in
    let bytes = c.in_ok-input.input.items in
    let whole : ReadWhole (told name) (2 ^ 30) bytes = c.in_ok-input.ensures.found in
    replied_on told before after (edit_file c.args.input.now c.args.script.now c.args.grammar) then between after (next bytes) c.edit_input.result
    (λ said h. read_goes_on told before after name next said bytes whole.contents whole.within
    (settles_then told then c.input_in_file.ensures.told before between after (next bytes) said c.input_in_file.ensures.counts h))
    c.edit_input.ensures.settled
