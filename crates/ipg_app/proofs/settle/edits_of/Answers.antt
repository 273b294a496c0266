use Rattle.std.proofs.Common.{Ok, Err, List, inl}
use Rattle.ipg_edit_script.specs.declared.script.Edit.{Edit}
use Rattle.ipg_app_tree.specs.Editing.{Edits, ReadsScript}
use Rattle.ipg_app_text.specs.Order.{Order, says}
use Rattle.ipg_app.specs.Reply.{edits_of}
use Rattle.ipg_app.proofs.Settling.{script_goes_on, no_script}
use Rattle.ipg_app.proofs.Replying.{reply_exits}
use Rattle.ipg_app.proofs.settle.edits_of.Goals as goal

pub returns-in_err-edits : goal.returns-in_err-edits
returns-in_err-edits c told before after =
    let text = c.args.text.now in
    let grammar = c.args.grammar in
    let input = c.args.input.items in
    let next : List Edit → Order = λ these. says (Edits grammar input these) in
    reply_exits told before after (edits_of text grammar input) c.from_residual.result c.in_err-edits.field-0.0 (λ said. ReadsScript text (Err said))
    c.from_residual.ensures.1 (λ said h. no_script told before after text next said h) c.in_err-edits.ensures

pub returns : goal.returns
returns c told before after =
    let text = c.args.text.now in
    let edits = c.in_ok-edits.edits in
    let is : ReadsScript text (Ok edits) = c.in_ok-edits.ensures in
    let next : List Edit → Order = λ these. says (Edits c.args.grammar c.args.input.items these) in
    ((c.requires, is.each), λ said h. script_goes_on told before after text next said edits is (inl h))
