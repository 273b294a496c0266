use Rattle.ipg_mach_node.proofs.Stores as stores
use Rattle.ipg_mach_node.proofs.laws.before_before.Goals as goal

pub returns : goal.returns
returns c = stores.before_before
