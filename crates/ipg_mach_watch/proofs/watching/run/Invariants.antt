use Rattle.std.proofs.Common.{ℕ}
use Rattle.ipg_mach_moves.specs.Moves.{Evaluation, moves}
use Rattle.ipg_mach_nodes.specs.Stored.{Source}
use Rattle.ipg_mach.specs.Stage.{staged, IsAt}
use Rattle.ipg_mach_watch.specs.Watched.{IsWatch}
use Rattle.ipg_mach_watch.proofs.watching.run.Given as goal

abbrev pub invariant-loop-left : goal.invariant-loop-left
invariant-loop-left g l =
    (src : Source) (e : Evaluation) → IsAt src (staged l.fn.machine.work) e → IsWatch l.fn.watch e 0
    → (n : ℕ) × IsAt src (staged l.machine.work) (moves n e) × IsWatch l.watch e n

abbrev pub decreases-loop-left : goal.decreases-loop-left
decreases-loop-left g l = l.left
