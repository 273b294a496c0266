use Rattle.ipg_mach_failure_laws.proofs.Leaving as leaving
use Rattle.ipg_mach_failure_laws.proofs.laws.range_left_alike_by_memo.Goals as goal

pub returns : goal.returns
returns c = leaving.range_left c.calls_sit.ensures c.stands_there.ensures c.ended_stays.ensures c.parses_by_one_call.ensures
