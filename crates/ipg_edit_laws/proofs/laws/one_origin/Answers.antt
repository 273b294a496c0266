use Rattle.ipg_edit_laws.proofs.Knowing as knowing
use Rattle.ipg_edit_laws.proofs.laws.one_origin.Goals as goal

pub returns : goal.returns
returns c = knowing.one_origin
