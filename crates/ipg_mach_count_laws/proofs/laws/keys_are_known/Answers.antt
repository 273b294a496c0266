use Rattle.ipg_mach_count_laws.proofs.Found as found
use Rattle.ipg_mach_count_laws.proofs.laws.keys_are_known.Goals as goal

pub returns : goal.returns
returns c = found.keys_are_known
