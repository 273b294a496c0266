use Rattle.ipg_tree.specs.Behind.{says}
use Rattle.ipg_tree.proofs.line.put_node.Goals as goal

pub returns-in-Some : goal.returns-in-Some
returns-in-Some g c src grammar begin one stand stands small =
    c.put_row.ensures grammar one stand (says src _ begin _ _ one c.in-Some.is stands) small
