use Rattle.ipg_mach_count_laws.proofs.Plain as plain
use Rattle.ipg_mach_count_laws.proofs.laws.calls_sit.Goals as goal

pub returns : goal.returns
returns c = plain.calls_sit
