use Rattle.ipg_mach_count_laws.proofs.Whole as whole
use Rattle.ipg_mach_count_laws.proofs.laws.counts_over.Goals as goal

pub returns : goal.returns
returns c = whole.counts_over c.heights_agree.ensures c.parses_by_one_call.ensures c.turns_suffice.ensures
