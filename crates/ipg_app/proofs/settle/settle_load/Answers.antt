use Rattle.std.proofs.Common.{List, ℕ, ◌^◌, subst}
use Rattle.ipg_outside.specs.Files.{ReadWhole}
use Rattle.ipg_app_text.specs.Found.{input_in_file, silence}
use Rattle.ipg_app_text.specs.Order.{Order}
use Rattle.ipg_app_text.specs.Settles.{Settles}
use Rattle.ipg_app.specs.Settled.{IsReplied}
use Rattle.ipg_app.specs.Reply.{load, load_in}
use Rattle.ipg_app.proofs.Settling.{no_input_on, read_goes_on, settles_then}
use Rattle.ipg_app.proofs.Replying.{replied_on, reply_exits}
use Rattle.ipg_app.proofs.settle.settle_load.Goals as goal

pub returns-in_err-file-clause-settled : goal.returns-in_err-file-clause-settled
returns-in_err-file-clause-settled g c =
    let told = g.F.Files.told c.args.files.now in
    let before = g.F.Files.faults c.args.files.now in
    let after = g.F.Files.faults c.input_in_file.new.files in
    let name = c.args.table.now in
    let next : List ℕ → Order = load_in c.args.input.now in
    reply_exits told before after (load c.args.table.now c.args.input.now) c.from_residual.result c.in_err-file.field-0.0
    (Settles told before after (input_in_file name (λ input. silence))) c.from_residual.ensures.1
    (λ said h. no_input_on told before after name next said h) c.in_err-file.ensures.found

pub returns-clause-settled : goal.returns-clause-settled
returns-clause-settled g c =
    let told = g.F.Files.told c.args.files.now in
    let before = g.F.Files.faults c.args.files.now in
    let then = g.F.Files.told c.input_in_file.new.files in
    let between = g.F.Files.faults c.input_in_file.new.files in
    let after = g.F.Files.faults c.load_in.new.files in
    let name = c.args.table.now in
    let next : List ℕ → Order = load_in c.args.input.now in
    let bytes = c.in_ok-file.file.items in
    let whole : ReadWhole (told name) (2 ^ 30) bytes = c.in_ok-file.ensures.found in
    replied_on told before after (load c.args.table.now c.args.input.now) then between after (next bytes) c.load_in.result
    (λ said h. read_goes_on told before after name next said bytes whole.contents whole.within
    (settles_then told then c.input_in_file.ensures.told before between after (next bytes) said c.input_in_file.ensures.counts h))
    (subst (λ b. IsReplied then between after (next b) c.load_in.result) c.deref.ensures.value c.load_in.ensures.settled)
