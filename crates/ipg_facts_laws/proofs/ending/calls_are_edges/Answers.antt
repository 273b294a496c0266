use Rattle.ipg_facts_laws.proofs.Edges as edges
use Rattle.ipg_facts_laws.proofs.ending.calls_are_edges.Goals as goal

pub returns : goal.returns
returns c = edges.calls_are_edges
