use Rattle.std.proofs.Common.{◌≡◌, ℕ, ◌+◌}
use Rattle.ipg_mach_moves.specs.Moves.{Evaluation, moves}
use Rattle.ipg_mach_nodes.specs.Stored.{Source}
use Rattle.ipg_mach.specs.Stage.{staged, IsAt}
use Rattle.ipg_mach.proofs.work.Work.go.Given as goal

abbrev pub invariant-loop-left : goal.invariant-loop-left
invariant-loop-left g l =
    (src : Source) (e : Evaluation) → IsAt src (staged l.fn.self) e
    → (n : ℕ) × IsAt src (staged l.self) (moves n e) × (n + l.left ≡ l.most)

abbrev pub decreases-loop-left : goal.decreases-loop-left
decreases-loop-left g l = l.left
