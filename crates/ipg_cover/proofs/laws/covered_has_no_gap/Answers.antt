use Rattle.ipg_cover.proofs.Once as once
use Rattle.ipg_cover.proofs.laws.covered_has_no_gap.Goals as goal

pub returns : goal.returns
returns c = λ g. once.covered_has_no_gap g c.one_limit.ensures c.checks_refute.ensures
