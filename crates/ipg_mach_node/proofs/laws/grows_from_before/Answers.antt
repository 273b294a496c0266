use Rattle.ipg_mach_node.proofs.Stores as stores
use Rattle.ipg_mach_node.proofs.laws.grows_from_before.Goals as goal

pub returns : goal.returns
returns c = stores.grows_from_before
