use Rattle.ipg_mach_count_laws.proofs.Fresh as fresh
use Rattle.ipg_mach_count_laws.proofs.laws.all_where_none_kept.Goals as goal

pub returns : goal.returns
returns c = fresh.all_where_none_kept
