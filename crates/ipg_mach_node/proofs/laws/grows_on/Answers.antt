use Rattle.ipg_mach_node.proofs.Stores as stores
use Rattle.ipg_mach_node.proofs.laws.grows_on.Goals as goal

pub returns-clause-through : goal.returns-clause-through
returns-clause-through c = stores.grows_through

pub returns-clause-list : goal.returns-clause-list
returns-clause-list c = stores.grows_by_list

pub returns-clause-node : goal.returns-clause-node
returns-clause-node c = stores.grows_by_node
