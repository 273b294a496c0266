use Rattle.ipg_mach_term.proofs.Answered as answered
use Rattle.ipg_mach_term.proofs.laws.answered_is_taken.Goals as goal

pub returns : goal.returns
returns c = answered.answered_is_taken c.parses_by_one_call.ensures
