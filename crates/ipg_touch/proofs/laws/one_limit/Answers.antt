use Rattle.ipg_touch.proofs.Limits as limits
use Rattle.ipg_touch.proofs.laws.one_limit.Goals as goal

pub returns : goal.returns
returns c = limits.limits_agree
