use Rattle.ipg_mach_term.proofs.Ending as ending
use Rattle.ipg_mach_term.proofs.laws.sub_ends_by.Goals as goal

pub returns : goal.returns
returns c = ending.sub_ends_by
