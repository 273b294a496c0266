use Rattle.ipg_touch.proofs.First as first
use Rattle.ipg_touch.proofs.laws.loose_is_first.Goals as goal

pub returns : goal.returns
returns c = first.loose_is_first
