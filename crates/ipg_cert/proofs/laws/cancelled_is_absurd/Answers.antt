use Rattle.ipg_cert.proofs.Absurd as absurd_sums
use Rattle.ipg_cert.proofs.laws.cancelled_is_absurd.Goals as goal

pub returns : goal.returns
returns c = absurd_sums.cancelled_is_absurd
