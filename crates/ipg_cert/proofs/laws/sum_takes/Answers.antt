use Rattle.ipg_cert.proofs.SeenLemmas as seen
use Rattle.ipg_cert.proofs.laws.sum_takes.Goals as goal

pub returns : goal.returns
returns c = seen.sum_takes
