use Rattle.ipg_store_depth_laws.proofs.Whole.{shallow, nests}
use Rattle.ipg_store_depth_laws.proofs.laws.text_is_shallow.Goals as goal

pub returns-clause-is : goal.returns-clause-is
returns-clause-is c = shallow c.reads_exactly.ensures c.reads_formed.ensures

pub returns-clause-nests : goal.returns-clause-nests
returns-clause-nests c = nests (shallow c.reads_exactly.ensures c.reads_formed.ensures)
