use Rattle.ipg_mach_watch.proofs.Present as present
use Rattle.ipg_mach_watch.proofs.laws.told_are_furthest.Goals as goal

pub returns : goal.returns
returns c = present.told_are_furthest c.furthest_are_furthest.ensures
