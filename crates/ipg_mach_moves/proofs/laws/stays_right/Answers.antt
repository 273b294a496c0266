use Rattle.ipg_mach_moves.proofs.Ended as ended
use Rattle.ipg_mach_moves.proofs.laws.stays_right.Goals as goal

pub returns : goal.returns
returns c = ended.stays_right c.heights_agree.ensures c.lies_within.ensures
