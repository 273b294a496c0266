use Rattle.std.proofs.Common.{subst}
use Rattle.ipg_core.specs.Good.{Good}
use Rattle.ipg_app_tree.proofs.Meant.{meant, input_of}
use Rattle.ipg_app_tree.proofs.answering.has_answer.Goals as goal

pub returns : goal.returns
returns c =
    let good = subst Good c.core.ensures.core c.rules-rules.ensures.good in
    meant c.args.grammar.now c.args.input.now good c.core.ensures.total (input_of c.args.input.now c.requires c.type_inv.input)
