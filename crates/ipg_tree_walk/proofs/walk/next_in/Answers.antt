use Rattle.ipg_tree_walk.proofs.Walking.{takes_if}
use Rattle.ipg_tree_walk.proofs.walk.next_in.Goals as goal

pub returns-in-Some : goal.returns-in-Some
returns-in-Some g c = takes_if c.args.store.now c.args.level c.in-Some.list c.kids.result.now c.next_of.result c.in-Some.is c.kids.ensures c.next_of.ensures
