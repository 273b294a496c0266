use Rattle.ipg_query.proofs.Shallow.{members_shallow}
use Rattle.ipg_query.proofs.laws.members_are_shallow.Goals as goal

pub returns : goal.returns
returns c = members_shallow
