use Rattle.ipg_mach_node.proofs.Growing as growing
use Rattle.ipg_mach_node.proofs.laws.no_items.Goals as goal

pub returns : goal.returns
returns c = growing.no_items
