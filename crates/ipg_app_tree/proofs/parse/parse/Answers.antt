use Rattle.ipg_app_tree.proofs.Parsing.{failed}
use Rattle.ipg_app_tree.proofs.parse.parse.Goals as goal

pub returns-in-Err : goal.returns-in-Err
returns-in-Err g c =
    let grammar = c.args.due.now.grammar in
    let input = c.args.due.now.input.items in
    failed c.args.due.now.show grammar input c.in-Err.fault _ _ _ _ c.status_of.result c.status_of.ensures (rw c.deref.ensures.value at c.in-Err.ensures.fault)
