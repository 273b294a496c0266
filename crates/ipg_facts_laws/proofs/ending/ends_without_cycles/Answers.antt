use Rattle.ipg_facts_laws.proofs.Totals as ending
use Rattle.ipg_facts_laws.proofs.ending.ends_without_cycles.Goals as goal

pub returns : goal.returns
returns c = ending.ends_without_cycles c.asks_what_fits.ensures c.edges_are_few.ensures c.edges_are_inside.ensures
