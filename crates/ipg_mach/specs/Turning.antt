-- What a machine remembers at first, and how far it goes.
use Rattle.std.specs.Prelude.{◌≡◌, ◌≤◌, ◌<◌, ℕ, [], Result, Option, Some, None}
use Rattle.std.specs.FinMap as map
use Rattle.ipg_core.specs.Tree.{Tree}
use Rattle.ipg_core.specs.Run.{Stop}
use Rattle.ipg_memo.specs.Keyed.{Entries}
use Rattle.ipg_mach_moves.specs.Moves.{Evaluation, Known, moves, ended}
use Rattle.ipg_mach_nodes.specs.Stored.{Source}
use Rattle.ipg_mach.specs.declared.machine.Remember.{Remember}
use Rattle.ipg_mach.specs.declared.machine.Remember.TheVariants.{Nothing, Answers}
use Rattle.ipg_mach.specs.declared.machine.Turn.{Turn}
use Rattle.ipg_mach.specs.declared.machine.Turn.TheVariants.{More, Done}
use Rattle.ipg_mach.specs.Stage.{Stage, IsAt}

-- what is known at first
abbrev pub known_at : Remember → Option Known
known_at Nothing = None
known_at Answers = Some []

-- the memo that holds it
abbrev pub memo_at : Remember → Option Entries
memo_at Nothing = None
memo_at Answers = Some map.empty

-- it is done where the evaluation has ended
abbrev pub turn_of : Option (Result Tree Stop) → Turn
turn_of None = More
turn_of (Some answer) = Done

-- in so many moves, one at least where one may be made, the machine has come to what an evaluation comes to in them; where that
-- hasn't ended, it has made all that it may
pub record HasGone (src : Source) (s : Stage) (e : Evaluation) (most : ℕ) (turn : Turn) : Type 0 where
  pub moved : ℕ
  pub at : IsAt src s (moves moved e)
  pub turned : turn ≡ turn_of (ended (moves moved e))
  pub within : moved ≤ most
  pub some : 0 < most → 0 < moved
  pub all : turn ≡ More → moved ≡ most
