use Rattle.ipg_edit_laws.proofs.Bytes as bytes
use Rattle.ipg_edit_laws.proofs.laws.edited_length.Goals as goal

pub returns : goal.returns
returns c = bytes.edited_length
