use Rattle.ipg_core.proofs.Turns as turns
use Rattle.ipg_core.proofs.laws.turns_suffice.Goals as goal

pub returns : goal.returns
returns c = turns.turns_suffice
