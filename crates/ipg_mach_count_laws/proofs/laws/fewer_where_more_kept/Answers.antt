use Rattle.ipg_mach_count_laws.proofs.Fresh as fresh
use Rattle.ipg_mach_count_laws.proofs.laws.fewer_where_more_kept.Goals as goal

pub returns : goal.returns
returns c = fresh.fewer_where_more_kept
