use Rattle.ipg_mach_failures.proofs.Ending as ending
use Rattle.ipg_mach_failures.proofs.laws.none_behind_end.Goals as goal

pub returns : goal.returns
returns c = ending.none_behind_end
