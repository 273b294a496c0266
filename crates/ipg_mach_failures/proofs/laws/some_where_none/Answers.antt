use Rattle.ipg_mach_failures.proofs.Ending as ending
use Rattle.ipg_mach_failures.proofs.laws.some_where_none.Goals as goal

pub returns : goal.returns
returns c = ending.some_where_none
