use Rattle.ipg_mach_failure_laws.proofs.Beside as beside
use Rattle.ipg_mach_failure_laws.proofs.laws.told_alike_by_memo.Goals as goal

pub returns : goal.returns
returns c = beside.told_alike_by_memo c.calls_sit.ensures c.stands_there.ensures c.none_behind_end.ensures
