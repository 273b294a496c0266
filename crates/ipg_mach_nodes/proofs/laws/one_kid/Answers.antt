use Rattle.ipg_mach_nodes.proofs.Once as once
use Rattle.ipg_mach_nodes.proofs.laws.one_kid.Goals as goal

pub returns : goal.returns
returns c = once.one_kid
