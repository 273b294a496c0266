use Rattle.ipg_edit_laws.proofs.Knowing as knowing
use Rattle.ipg_edit_laws.proofs.laws.nothing_else.Goals as goal

pub returns : goal.returns
returns c = knowing.nothing_else
