use Rattle.std.proofs.Common.{List, ℕ, ◌^◌}
use Rattle.ipg_outside.specs.Files.{ReadWhole}
use Rattle.ipg_app_text.specs.Found.{input_in_file, silence}
use Rattle.ipg_app_text.specs.Order.{Order, says}
use Rattle.ipg_app_text.specs.Settles.{Settles}
use Rattle.ipg_app.specs.Reply.{parse_input}
use Rattle.ipg_app_tree.specs.Parses.{Parses}
use Rattle.ipg_app.proofs.Settling.{no_input_on, read_on}
use Rattle.ipg_app.proofs.Replying.{reply_exits}
use Rattle.ipg_app.proofs.settle.parse_input.Goals as goal

pub returns-in_err-input-clause-settled : goal.returns-in_err-input-clause-settled
returns-in_err-input-clause-settled g c =
    let told = g.F.Files.told c.args.files.now in
    let before = g.F.Files.faults c.args.files.now in
    let after = g.F.Files.faults c.input_in_file.new.files in
    let name = c.args.input.now in
    let next : List ℕ → Order = λ input. says (Parses c.args.show c.args.grammar input) in
    reply_exits told before after (parse_input c.args.show name c.args.grammar) c.from_residual.result c.in_err-input.field-0.0
    (Settles told before after (input_in_file name (λ input. silence))) c.from_residual.ensures.1
    (λ said h. no_input_on told before after name next said h) c.in_err-input.ensures.found

pub returns-clause-settled : goal.returns-clause-settled
returns-clause-settled g c =
    let told = g.F.Files.told c.args.files.now in
    let before = g.F.Files.faults c.args.files.now in
    let after = g.F.Files.faults c.input_in_file.new.files in
    let name = c.args.input.now in
    let next : List ℕ → Order = λ input. says (Parses c.args.show c.args.grammar input) in
    let bytes = c.in_ok-input.input.items in
    let whole : ReadWhole (told name) (2 ^ 30) bytes = c.in_ok-input.ensures.found in
    (whole.within, λ said h. read_on told before after name next said bytes whole.contents whole.within h)
