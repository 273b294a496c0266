use Rattle.ipg_names_scope.proofs.Rosters as rosters
use Rattle.ipg_names_scope.proofs.laws.roster_is_whole.Goals as goal

pub returns : goal.returns
returns c = rosters.roster_length
