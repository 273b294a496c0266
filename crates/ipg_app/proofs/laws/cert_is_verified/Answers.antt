use Rattle.ipg_app.proofs.Verified as verified
use Rattle.ipg_app.proofs.laws.cert_is_verified.Goals as goal

pub returns : goal.returns
returns c = verified.cert_is_verified c.one_limit.ensures
