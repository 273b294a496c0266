use Rattle.ipg_facts_laws.proofs.Widths as widths
use Rattle.ipg_facts_laws.proofs.laws.conditions_are_parts.Goals as goal

pub returns : goal.returns
returns c = widths.conditions_are_parts
