use Rattle.ipg_outside.proofs.Known.{bytes_below}
use Rattle.ipg_outside.proofs.disk.are_bytes.Goals as goal

pub returns : goal.returns
returns c = bytes_below c.args.bytes.now c.type_inv.bytes
