use Rattle.ipg_mach_moves.proofs.Ended as ended
use Rattle.ipg_mach_moves.proofs.laws.ends_only_so.Goals as goal

pub returns : goal.returns
returns c = ended.ends_only_so c.ends_as_meant.ensures
