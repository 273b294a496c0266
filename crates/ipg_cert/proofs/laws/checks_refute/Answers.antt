use Rattle.ipg_cert.proofs.Root as root
use Rattle.ipg_cert.proofs.laws.checks_refute.Goals as goal

pub returns : goal.returns
returns c = root.refuted
