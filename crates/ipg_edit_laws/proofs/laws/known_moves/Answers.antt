use Rattle.ipg_edit_laws.proofs.Knowing as knowing
use Rattle.ipg_edit_laws.proofs.laws.known_moves.Goals as goal

pub returns : goal.returns
returns c = knowing.known_moves
