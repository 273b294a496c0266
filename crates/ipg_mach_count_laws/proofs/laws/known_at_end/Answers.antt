use Rattle.ipg_mach_count_laws.proofs.Whole as whole
use Rattle.ipg_mach_count_laws.proofs.laws.known_at_end.Goals as goal

pub returns : goal.returns
returns c = whole.known_at_end c.heights_agree.ensures c.parses_by_one_call.ensures c.turns_suffice.ensures c.one_fresh.ensures
