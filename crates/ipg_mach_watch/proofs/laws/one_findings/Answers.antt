use Rattle.ipg_mach_watch.proofs.Behind as behind
use Rattle.ipg_mach_watch.proofs.laws.one_findings.Goals as goal

pub returns : goal.returns
returns c = behind.one_findings c.none_behind_end.ensures
