use Rattle.ipg_mach_count_laws.proofs.Deepest as deepest
use Rattle.ipg_mach_count_laws.proofs.laws.deepest_over.Goals as goal

pub returns : goal.returns
returns c = deepest.deepest_over c.heights_agree.ensures c.parses_by_one_call.ensures c.turns_suffice.ensures
