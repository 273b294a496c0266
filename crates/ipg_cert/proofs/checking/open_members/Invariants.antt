use Rattle.std.proofs.Common.{◌≤◌, drop, length}
use Rattle.ipg_cert.specs.Goals.{OpensEach}
use Rattle.ipg_cert.proofs.checking.open_members.Given as goal

abbrev pub invariant-loop-left : goal.invariant-loop-left
invariant-loop-left l = (l.left ≤ length l.members) × OpensEach l.kept (drop l.left l.members) l.fn.goals.items l.goals.items

abbrev pub decreases-loop-left : goal.decreases-loop-left
decreases-loop-left l = l.left
