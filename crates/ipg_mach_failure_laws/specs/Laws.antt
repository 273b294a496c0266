-- What is told of failures with a memo and without.
use Rattle.std.specs.Prelude.{◌≡◌, ℕ, ◌+◌, ◌≤◌, List, [], Option, Some, None, Result, Err}
use Rattle.ipg_core.specs.Grammar.{Grammar}
use Rattle.ipg_core.specs.Tree.{Tree}
use Rattle.ipg_core.specs.Run.{Stop, OutOfRange}
use Rattle.ipg_mach_moves.specs.Moves.{OpenCall, Works, Known, moves, opening, ended}
use Rattle.ipg_mach_failures.specs.Furthest.{Furthest, stories, furthest}

-- the same stories are told, in one order; of others that were met at that place the one has no more, and none only where the
-- other has none
pub record IsToldAs (one other : Furthest) : Type 0 where
  pub told : one.told ≡ other.told
  pub fewer : one.more ≤ other.more
  pub none : one.more ≡ 0 → other.more ≡ 0

-- a memo that knows nothing beforehand
abbrev pub new_memo : Option Known
new_memo = Some []

-- the furthest of those that an evaluation meets in n moves
abbrev pub furthest_by : Grammar → List ℕ → Option Known → ℕ → Furthest
furthest_by g s known n = furthest (stories n (opening g s known))

-- what an evaluation that ends tells with a memo is what it tells without one
abbrev pub ToldAlikeByMemo : Type 0
ToldAlikeByMemo = (g : Grammar) (s : List ℕ) (n m : ℕ) (answer other : Result Tree Stop)
    → ended (moves n (opening g s new_memo)) ≡ Some answer → ended (moves m (opening g s None)) ≡ Some other
    → IsToldAs (furthest_by g s new_memo n) (furthest_by g s None m)

-- ---- where a value leaves its range

-- behind n moves this call works above these, and by the next move a value leaves its range
pub record LeavesAt (g : Grammar) (s : List ℕ) (known : Option Known) (n : ℕ) (c : OpenCall) (lower : List OpenCall) : Type 0 where
  pub works : (moves n (opening g s known)).highest ≡ Works c
  pub above : (moves n (opening g s known)).lower ≡ lower
  pub leaves : ended (moves (n + 1) (opening g s known)) ≡ Some (Err OutOfRange)

-- with a memo it does so at the same term at hand of the same call, above the same calls
abbrev pub RangeLeftAlikeByMemo : Type 0
RangeLeftAlikeByMemo = (g : Grammar) (s : List ℕ) (n m : ℕ) (c other : OpenCall) (lower below : List OpenCall)
    → LeavesAt g s new_memo n c lower → LeavesAt g s None m other below → (c ≡ other) × (lower ≡ below)
