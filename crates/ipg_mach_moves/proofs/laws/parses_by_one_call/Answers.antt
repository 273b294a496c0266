use Rattle.ipg_mach_moves.proofs.Single as single
use Rattle.ipg_mach_moves.proofs.laws.parses_by_one_call.Goals as goal

pub returns : goal.returns
returns c = single.parses_by_one_call
