use Rattle.ipg_mach_failures.proofs.Telling as telling
use Rattle.ipg_mach_failures.proofs.laws.furthest_are_furthest.Goals as goal

pub returns : goal.returns
returns c = telling.furthest_are_furthest
