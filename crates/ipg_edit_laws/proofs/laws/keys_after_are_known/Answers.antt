use Rattle.ipg_edit_laws.proofs.Knowing as knowing
use Rattle.ipg_edit_laws.proofs.laws.keys_after_are_known.Goals as goal

pub returns : goal.returns
returns c = knowing.keys_after_are_known
