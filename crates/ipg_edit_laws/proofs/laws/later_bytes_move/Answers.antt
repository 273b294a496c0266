use Rattle.ipg_edit_laws.proofs.Bytes as bytes
use Rattle.ipg_edit_laws.proofs.laws.later_bytes_move.Goals as goal

pub returns : goal.returns
returns c = bytes.later_bytes_move
