use Rattle.std.proofs.Common.{Err, subst}
use Rattle.ipg_query_path.specs.declared.path.Query.{Query}
use Rattle.ipg_app_tree.specs.declared.show.Show.TheVariants.{PickedView}
use Rattle.ipg_app_text.specs.Order.{Order}
use Rattle.ipg_app_tree.specs.Path.{ReadsPath}
use Rattle.ipg_app.specs.Reply.{Parse, picked_view, use_order}
use Rattle.ipg_app.specs.Settled.{IsReplied}
use Rattle.ipg_app.proofs.Settling.{path_goes_on, no_path}
use Rattle.ipg_app.proofs.Replying.{replied_on, reply_exits}
use Rattle.ipg_app.proofs.settle.settle_picked_view.Goals as goal

pub returns-in_err-path-clause-settled : goal.returns-in_err-path-clause-settled
returns-in_err-path-clause-settled g c =
    let told = g.F.Files.told c.args.files.now in
    let counts = g.F.Files.faults c.args.files.now in
    let grammar = c.args.grammar.now in
    let input = c.args.input.now in
    let text = c.args.path.now in
    let next : Query → Order = λ path. use_order grammar (Parse (PickedView path) input) in
    reply_exits told counts counts (picked_view grammar input text) c.from_residual.result c.in_err-path.field-0.0 (λ said. ReadsPath text (Err said))
    c.from_residual.ensures.1 (λ said is. no_path told counts counts text next said is) c.in_err-path.ensures

pub returns-clause-settled : goal.returns-clause-settled
returns-clause-settled g c =
    let told = g.F.Files.told c.args.files.now in
    let before = g.F.Files.faults c.args.files.now in
    let after = g.F.Files.faults c.settle_use.new.files in
    let grammar = c.args.grammar.now in
    let input = c.args.input.now in
    let text = c.args.path.now in
    let path = c.in_ok-path.path in
    let next : Query → Order = λ path. use_order grammar (Parse (PickedView path) input) in
    replied_on told before after (picked_view grammar input text) told before after (next path) c.settle_use.result
    (λ said. path_goes_on told before after text next said path c.in_ok-path.ensures)
    (subst (λ task. IsReplied told before after (use_order grammar task) c.settle_use.result) c.shown.ensures c.settle_use.ensures.settled)
