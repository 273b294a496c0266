use Rattle.ipg_edit_laws.proofs.Bytes as bytes
use Rattle.ipg_edit_laws.proofs.laws.earlier_bytes_stay.Goals as goal

pub returns : goal.returns
returns c = bytes.earlier_bytes_stay
