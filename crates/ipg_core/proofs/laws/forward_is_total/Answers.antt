use Rattle.ipg_core.proofs.Forward as forward
use Rattle.ipg_core.proofs.laws.forward_is_total.Goals as goal

pub returns : goal.returns
returns c = forward.forward_is_total
