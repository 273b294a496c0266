use Rattle.std.proofs.Common.{subst}
use Rattle.ipg_core.specs.Good.{Good}
use Rattle.ipg_app_tree.proofs.Meant.{input_of}
use Rattle.ipg_app_tree.proofs.editing.ends.Goals as goal

pub returns-clause-good : goal.returns-clause-good
returns-clause-good c = subst Good c.core.ensures.core c.rules-rules.ensures.good

pub returns-clause-input : goal.returns-clause-input
returns-clause-input c = input_of c.args.input.now c.requires c.type_inv.input
