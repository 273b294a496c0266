use Rattle.ipg_mach_node.proofs.Growing as growing
use Rattle.ipg_mach_node.proofs.laws.items_stay.Goals as goal

pub returns : goal.returns
returns c = growing.items_stay c.kids_stay.ensures
