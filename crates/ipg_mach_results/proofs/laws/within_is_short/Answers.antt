use Rattle.ipg_mach_results.proofs.Short as short
use Rattle.ipg_mach_results.proofs.laws.within_is_short.Goals as goal

pub returns : goal.returns
returns c = short.within_is_short
