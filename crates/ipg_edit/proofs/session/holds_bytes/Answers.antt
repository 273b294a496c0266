use Rattle.ipg_edit.proofs.Answering.{input_of}
use Rattle.ipg_edit.proofs.session.holds_bytes.Goals as goal

pub returns : goal.returns
returns c = input_of c.args.input.now c.requires c.type_inv.input
