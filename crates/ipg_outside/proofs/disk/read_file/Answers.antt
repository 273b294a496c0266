use Rattle.ipg_outside.proofs.Known.{if-whole, if-cut}
use Rattle.ipg_outside.proofs.disk.read_file.Goals as goal

pub returns-clause-whole : goal.returns-clause-whole
returns-clause-whole g c = if-whole _ _ c.read_up_to.result c.read_up_to.ensures.whole c.read_up_to.ensures.bytes

pub returns-clause-cut : goal.returns-clause-cut
returns-clause-cut g c = if-cut _ _ c.read_up_to.result c.read_up_to.ensures.cut c.read_up_to.ensures.front
