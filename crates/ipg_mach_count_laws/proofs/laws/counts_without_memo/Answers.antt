use Rattle.ipg_mach_count_laws.proofs.Alone as alone
use Rattle.ipg_mach_count_laws.proofs.laws.counts_without_memo.Goals as goal

pub returns : goal.returns
returns c = alone.counts_without_memo c.parses_by_one_call.ensures c.turns_suffice.ensures
