use Rattle.ipg_mach_count_laws.proofs.Fresh as fresh
use Rattle.ipg_mach_count_laws.proofs.laws.one_reach.Goals as goal

pub returns : goal.returns
returns c = fresh.one_reach c.all_where_none_kept.ensures c.one_fresh.ensures
