use Rattle.ipg_mach_count_laws.proofs.Parts as parts
use Rattle.ipg_mach_count_laws.proofs.laws.stands_there.Goals as goal

pub returns : goal.returns
returns c = parts.part_at
