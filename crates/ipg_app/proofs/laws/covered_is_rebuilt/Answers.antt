use Rattle.ipg_app.proofs.Rebuilt.{covered_is_rebuilt}
use Rattle.ipg_app.proofs.laws.covered_is_rebuilt.Goals as goal

pub returns : goal.returns
returns c = covered_is_rebuilt c.one_parse.ensures c.covered_comes_back.ensures
