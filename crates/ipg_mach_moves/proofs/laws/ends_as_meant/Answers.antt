use Rattle.ipg_mach_moves.proofs.Ended as ended
use Rattle.ipg_mach_moves.proofs.laws.ends_as_meant.Goals as goal

pub returns : goal.returns
returns c = ended.ends_as_meant c.heights_agree.ensures c.lies_within.ensures
