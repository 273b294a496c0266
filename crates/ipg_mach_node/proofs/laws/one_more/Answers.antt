use Rattle.ipg_mach_node.proofs.Growing as growing
use Rattle.ipg_mach_node.proofs.laws.one_more.Goals as goal

pub returns : goal.returns
returns c = growing.one_more
