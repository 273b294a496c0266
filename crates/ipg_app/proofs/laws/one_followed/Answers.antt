use Rattle.ipg_app.proofs.OneFollowed.{followed_same}
use Rattle.ipg_app.proofs.laws.one_followed.Goals as goal

pub returns : goal.returns
returns c = followed_same c.one_findings.ensures
