use Rattle.ipg_mach_count_laws.proofs.Stays as stays
use Rattle.ipg_mach_count_laws.proofs.laws.ended_stays.Goals as goal

pub returns : goal.returns
returns c = stays.stays
