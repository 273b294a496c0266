use Rattle.ipg_facts_laws.proofs.Solving as solving
use Rattle.ipg_facts_laws.proofs.ending.ends_where_none_solve.Goals as goal

pub returns : goal.returns
returns c = solving.ends_where_none_solve c.ends_without_cycles.ensures c.reached_edges_solve.ensures c.reached_cycles_solve.ensures
