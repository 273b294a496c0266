use Rattle.std.proofs.Common.{◌≡◌, ℕ, ◌^◌, ◌<◌, List, Option, length}
use Rattle.ipg_core.specs.Environment as core
use Rattle.ipg_mach_nodes.specs.Stored.{Source}
use Rattle.ipg_mach_slot.specs.Now.{AreResults}
use Rattle.ipg_mach_watch.proofs.Extents.{Leaves}
use Rattle.ipg_mach_watch.proofs.reach.done_end.Given as goal

-- the greatest so far, and what is left, give the greatest of all
abbrev pub invariant-loop-row : goal.invariant-loop-row
invariant-loop-row g l =
    (src : Source) (at n : ℕ) (done : List (Option core.Done)) → src.syms ≡ l.tables.syms → n < 2 ^ 63 → AreResults src l.store at n l.rows done
    → Leaves src l.store at n l.left done l.greatest

abbrev pub decreases-loop-row : goal.decreases-loop-row
decreases-loop-row g l = length l.left
