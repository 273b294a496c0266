use Rattle.ipg_cover_laws.proofs.Covered as covered
use Rattle.ipg_cover_laws.proofs.laws.covered_comes_back.Goals as goal

pub returns : goal.returns
returns c = covered.covered_comes_back c.gapless_comes_back.ensures c.checks_refute.ensures
