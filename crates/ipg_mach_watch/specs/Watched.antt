-- What is kept of an evaluation that is watched.
use Rattle.std.specs.Prelude.{◌≡◌, ℕ, Result, Some, None}
use Rattle.ipg_core.specs.Tree.{Tree}
use Rattle.ipg_core.specs.Run.{Stop}
use Rattle.ipg_mach_moves.specs.Moves.{Evaluation, moves, ended}
use Rattle.ipg_mach_nodes.specs.Stored.{Source}
use Rattle.ipg_mach.specs.Stage.{Stage, IsAt}
use Rattle.ipg_mach_failures.specs.Chain.{calls_of}
use Rattle.ipg_mach_failures.specs.Furthest.{stories, furthest}
use Rattle.ipg_mach_watch.specs.declared.watched.Watch.{Watch}
use Rattle.ipg_mach_watch.specs.Found.{last_worked}
use Rattle.ipg_mach_watch.specs.Told.{IsFurthest}

-- it was watched for n moves: the furthest of the failures that were met, the calls that wait now, and the one that worked last
pub record IsWatch {A : Type 0} (w : Watch A) (e : Evaluation) (n : ℕ) : Type 0 where
  pub furthest : IsFurthest w.furthest (furthest (stories n e))
  pub calls : w.calls.items ≡ calls_of (moves n e)
  pub last : w.last ≡ last_worked None n e

-- the machine stands for what the evaluation comes to in some moves, for which it was watched, and that has ended
pub record IsEnded {A : Type 0} (src : Source) (s : Stage) (w : Watch A) (e : Evaluation) : Type 0 where
  pub moved : ℕ
  pub at : IsAt src s (moves moved e)
  pub watch : IsWatch w e moved
  pub answer : Result Tree Stop
  pub ends : ended (moves moved e) ≡ Some answer
