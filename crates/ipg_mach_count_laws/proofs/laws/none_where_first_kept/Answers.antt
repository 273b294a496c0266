use Rattle.ipg_mach_count_laws.proofs.Fresh as fresh
use Rattle.ipg_mach_count_laws.proofs.laws.none_where_first_kept.Goals as goal

pub returns : goal.returns
returns c = fresh.none_where_first_kept
