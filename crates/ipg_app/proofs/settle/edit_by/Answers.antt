use Rattle.std.proofs.Common.{Ok, Err}
use Rattle.ipg_core.specs.Grammar.{Grammar}
use Rattle.ipg_app_grammar.specs.Checks.{Checks}
use Rattle.ipg_app_text.specs.Order.{Order}
use Rattle.ipg_app.specs.Reply.{edit, edit_file}
use Rattle.ipg_app.proofs.Settling.{accepted_on, not_accepted}
use Rattle.ipg_app.proofs.Replying.{replied_on, reply_exits}
use Rattle.ipg_app.proofs.settle.edit_by.Goals as goal

pub returns-in_err-checked-clause-settled : goal.returns-in_err-checked-clause-settled
returns-in_err-checked-clause-settled g c =
    let told = g.F.Files.told c.args.files.now in
    let counts = g.F.Files.faults c.args.files.now in
    let core = c.args.core in
    let next : Grammar → Order = edit_file c.args.input.now c.args.script.now in
    reply_exits told counts counts (edit c.args.input.now c.args.script.now core) c.from_residual.result c.in_err-checked.field-0.0
    (λ said. Checks core (Err said)) c.from_residual.ensures.1 (λ said h. not_accepted told counts counts core next said h) c.in_err-checked.ensures.checks

pub returns-clause-settled : goal.returns-clause-settled
returns-clause-settled g c =
    let told = g.F.Files.told c.args.files.now in
    let before = g.F.Files.faults c.args.files.now in
    let after = g.F.Files.faults c.edit_file.new.files in
    let core = c.args.core in
    let same = c.in_ok-checked.checked in
    let next : Grammar → Order = edit_file c.args.input.now c.args.script.now in
    let checks : Checks core (Ok same) = c.in_ok-checked.ensures.checks in
    replied_on told before after (edit c.args.input.now c.args.script.now core) told before after (next same) c.edit_file.result
    (λ said h. accepted_on told before after core same next said checks h) c.edit_file.ensures.settled
