use Rattle.ipg_mach_nodes.proofs.Stays as stays
use Rattle.ipg_mach_nodes.proofs.laws.kids_stay.Goals as goal

pub returns : goal.returns
returns c = stays.kids_stay
