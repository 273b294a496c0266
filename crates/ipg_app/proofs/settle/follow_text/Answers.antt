use Rattle.std.proofs.Common.{Ok, Err}
use Rattle.ipg_app_grammar.specs.Followed.{Cleared, Clears}
use Rattle.ipg_app.specs.Reply.{explain_text, follow}
use Rattle.ipg_app_text.specs.Settles.{Settles}
use Rattle.ipg_app_text.specs.Lines.{said_of}
use Rattle.ipg_app_text.specs.Seen.{reason_of}
use Rattle.ipg_app_text.specs.Instead.{said_on}
use Rattle.ipg_app.proofs.Settling.{cleared_on, not_cleared}
use Rattle.ipg_app.proofs.settle.follow_text.Goals as goal

pub returns-in-Ok-clause-settled : goal.returns-in-Ok-clause-settled
returns-in-Ok-clause-settled g c =
    let told = g.F.Files.told c.args.files.now in
    let before = g.F.Files.faults c.args.files.now in
    let after = g.F.Files.faults c.follow_input.new.files in
    let name = c.args.name.now in
    let text = c.args.text.now in
    let input = c.args.followed.input.now in
    let made : Cleared = (c.in-Ok.made.grammar, c.in-Ok.made.core) in
    let clears : Clears text (Ok made) = c.in-Ok.ensures in
    said_on c.follow_input.result (Settles told before after (follow name text input made)) (Settles told before after (explain_text name input text))
    (λ said h. cleared_on told before after name text (follow name text input) said made clears h)
    c.follow_input.ensures.settled

pub returns-in_ok-told-in-Err-Said-clause-settled : goal.returns-in_ok-told-in-Err-Said-clause-settled
returns-in_ok-told-in-Err-Said-clause-settled g c =
    let told = g.F.Files.told c.args.files.now in
    let counts = g.F.Files.faults c.args.files.now in
    let name = c.args.name.now in
    let text = c.args.text.now in
    let reason = reason_of c.in-Err-Said.reason in
    let clears : Clears text (Err reason) = rw c.in-Err-Said.field-0-is at c.in-Err-Said.ensures in
    not_cleared told counts counts name text (follow name text c.args.followed.input.now) (said_of c.in_ok-told-in-Err-Said.field-0) reason clears
    c.in_ok-told-in-Err-Said.ensures
