use Rattle.ipg_mach_count_laws.proofs.Reaching as reaching
use Rattle.ipg_mach_count_laws.proofs.laws.fresh_at_any_height.Goals as goal

pub returns : goal.returns
returns c = reaching.fresh_at_any_height c.heights_agree.ensures c.parses_by_one_call.ensures c.turns_suffice.ensures
