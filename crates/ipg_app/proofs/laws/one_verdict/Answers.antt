use Rattle.ipg_app.proofs.OneVerdict as once
use Rattle.ipg_app.proofs.laws.one_verdict.Goals as goal

pub returns : goal.returns
returns c = once.one_verdict c.one_core.ensures c.one_check.ensures
