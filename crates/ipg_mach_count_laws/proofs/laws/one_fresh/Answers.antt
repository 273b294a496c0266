use Rattle.ipg_mach_count_laws.proofs.Fresh as fresh
use Rattle.ipg_mach_count_laws.proofs.laws.one_fresh.Goals as goal

pub returns : goal.returns
returns c = fresh.one_fresh
