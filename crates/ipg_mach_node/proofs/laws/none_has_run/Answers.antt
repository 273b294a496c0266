use Rattle.ipg_mach_node.proofs.Growing as growing
use Rattle.ipg_mach_node.proofs.laws.none_has_run.Goals as goal

pub returns : goal.returns
returns c = growing.none_has_run
