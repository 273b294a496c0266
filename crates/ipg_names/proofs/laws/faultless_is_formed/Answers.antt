use Rattle.ipg_names.proofs.GoodNames.{names_good}
use Rattle.ipg_names.proofs.laws.faultless_is_formed.Goals as goal

pub returns : goal.returns
returns c = names_good c.roster_is_whole.ensures
