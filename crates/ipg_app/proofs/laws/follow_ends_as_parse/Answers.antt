use Rattle.ipg_app.proofs.OneFollowed.{ends_as_parse}
use Rattle.ipg_app.proofs.laws.follow_ends_as_parse.Goals as goal

pub returns : goal.returns
returns c = ends_as_parse c.end_is_meant.ensures
