use Rattle.std.proofs.Common.{Ok, Err}
use Rattle.ipg_core.specs.Grammar.{Grammar}
use Rattle.ipg_app_tree.specs.declared.show.Show.TheVariants.{Lines}
use Rattle.ipg_app_text.specs.Order.{Order}
use Rattle.ipg_app.specs.Reply.{load_in, parse_input}
use Rattle.ipg_app_grammar.specs.Tables.{Loads}
use Rattle.ipg_app.proofs.Settling.{held_goes_on, none_held}
use Rattle.ipg_app.proofs.Replying.{replied_on, reply_exits}
use Rattle.ipg_app.proofs.settle.load_in.Goals as goal

pub returns-in_err-grammar-clause-settled : goal.returns-in_err-grammar-clause-settled
returns-in_err-grammar-clause-settled g c =
    let told = g.F.Files.told c.args.files.now in
    let counts = g.F.Files.faults c.args.files.now in
    let file = c.args.file.now in
    let next : Grammar → Order = parse_input Lines c.args.input.now in
    reply_exits told counts counts (load_in c.args.input.now file) c.from_residual.result c.in_err-grammar.field-0.0 (λ said. Loads file (Err said))
    c.from_residual.ensures.1 (λ said h. none_held told counts counts file next said h) c.in_err-grammar.ensures

pub returns-clause-settled : goal.returns-clause-settled
returns-clause-settled g c =
    let told = g.F.Files.told c.args.files.now in
    let before = g.F.Files.faults c.args.files.now in
    let after = g.F.Files.faults c.parse_input.new.files in
    let file = c.args.file.now in
    let grammar = c.in_ok-grammar.grammar in
    let next : Grammar → Order = parse_input Lines c.args.input.now in
    let loads : Loads file (Ok grammar) = c.in_ok-grammar.ensures in
    replied_on told before after (load_in c.args.input.now file) told before after (next grammar) c.parse_input.result
    (λ said h. held_goes_on told before after file next said grammar loads h) c.parse_input.ensures.settled
