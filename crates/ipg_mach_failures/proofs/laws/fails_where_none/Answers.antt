use Rattle.ipg_mach_failures.proofs.Nones as nones
use Rattle.ipg_mach_failures.proofs.laws.fails_where_none.Goals as goal

pub returns : goal.returns
returns c = nones.fails_where_none
