use Rattle.ipg_facts_laws.proofs.Seconds as seconds
use Rattle.ipg_facts_laws.proofs.laws.gaps_are_bounded.Goals as goal

pub returns : goal.returns
returns c = seconds.gaps_are_bounded
