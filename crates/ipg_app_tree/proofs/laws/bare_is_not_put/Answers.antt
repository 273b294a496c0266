use Rattle.ipg_app_tree.proofs.Bare as bare
use Rattle.ipg_app_tree.proofs.laws.bare_is_not_put.Goals as goal

pub returns : goal.returns
returns c = bare.bare_is_not_put c.covered_is_put.ensures c.put_is_covered.ensures
