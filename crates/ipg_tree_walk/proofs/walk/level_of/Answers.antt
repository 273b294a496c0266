use Rattle.ipg_core.specs.Tree.{Node}
use Rattle.ipg_tree_walk.proofs.walk.level_of.Goals as goal

pub returns-in-None : goal.returns-in-None
returns-in-None c src st id (Node rule size attrs start end kids) is_at stands =
    let is = is_at stands.1.node stands.1.is_node in
    absurd (cc)
