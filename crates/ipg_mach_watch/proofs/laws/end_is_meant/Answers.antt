use Rattle.ipg_mach_watch.proofs.Behind as behind
use Rattle.ipg_mach_watch.proofs.laws.end_is_meant.Goals as goal

pub returns : goal.returns
returns c = behind.end_is_meant c.ends_only_so.ensures
