use Rattle.ipg_facts_laws.proofs.Walks as walks
use Rattle.ipg_facts_laws.proofs.ending.long_walks_hold_cycles.Goals as goal

pub returns : goal.returns
returns c = walks.long_walks_hold_cycles
