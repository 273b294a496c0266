use Rattle.ipg_edit_laws.proofs.Knowing as knowing
use Rattle.ipg_edit_laws.proofs.laws.stays_right_to_know.Goals as goal

pub returns : goal.returns
returns c = knowing.stays_right_to_know c.earlier_bytes_stay.ensures c.later_bytes_move.ensures
