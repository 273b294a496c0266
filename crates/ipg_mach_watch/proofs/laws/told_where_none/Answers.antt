use Rattle.ipg_mach_watch.proofs.Present as present
use Rattle.ipg_mach_watch.proofs.laws.told_where_none.Goals as goal

pub returns : goal.returns
returns c = present.told_where_none c.some_where_none.ensures c.furthest_are_furthest.ensures
