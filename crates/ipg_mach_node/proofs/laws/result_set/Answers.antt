use Rattle.ipg_mach_node.proofs.Growing as growing
use Rattle.ipg_mach_node.proofs.laws.result_set.Goals as goal

pub returns : goal.returns
returns c = growing.result_set
