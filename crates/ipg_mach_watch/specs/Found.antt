-- What an evaluation is found to have come to.
use Rattle.std.specs.Prelude.{◌≡◌, ℕ, zero, suc, ◌-◌, ◌^◌, min, List, [], ◌∷◌, Result, Ok, Err, Option, Some, None}
use Rattle.ipg_core.specs.Grammar.{Grammar}
use Rattle.ipg_core.specs.Tree.{Tree}
use Rattle.ipg_core.specs.Run.{Stop, NoTree, OutOfRange, Deep}
use Rattle.ipg_mach_moves.specs.Moves.{OpenCall, Highest, Works, Holds, Evaluation, move, moves, opening, ended}
use Rattle.ipg_mach_failures.specs.declared.story.Call.{Call}
use Rattle.ipg_mach_failures.specs.declared.story.Story.{Story}
use Rattle.ipg_mach_failures.specs.Chain.{call_of}
use Rattle.ipg_mach_failures.specs.Furthest.{Furthest, stories, furthest}
use Rattle.ipg_mach_watch.specs.declared.findings.End.{End}
use Rattle.ipg_mach_watch.specs.declared.findings.End.TheVariants as end
use Rattle.ipg_mach_watch.specs.declared.findings.Findings as code

-- what it came to, and its furthest failures
pub record Found : Type 0 where
  pub end : End
  pub told : List Story
  pub more : ℕ

abbrev pub found : {A : Type 0} → code.Findings A → Found
found f = record { end = f.end; told = f.told.items; more = f.more }

-- ---- the call that worked last

-- a call with these terms left, the one at hand first; else the call before
abbrev pub at_work : Option Call → OpenCall → List ℕ → Option Call
at_work last c [] = last
at_work last c (u ∷ left) = Some (call_of c)

abbrev pub worked : Option Call → Highest → Option Call
worked last (Works c) = at_work last c c.left
worked last (Holds key answer) = last

-- the highest call that worked last, of those before n moves
unfoldable pub last_worked : Option Call → ℕ → Evaluation → Option Call
last_worked last zero e = last
last_worked last (suc n) e = last_worked (worked last e.highest) n (move e)

-- ---- what is found

-- a value left 64 bits in the term at hand of the call that worked last
abbrev pub end_with : Option Call → Result Tree Stop → Option End
end_with last (Ok tree) = Some end.Tree
end_with last (Err NoTree) = Some end.NoTree
end_with None (Err OutOfRange) = None
end_with (Some call) (Err OutOfRange) = Some (end.Range call)
end_with last (Err Deep) = None

-- none where it hasn't ended
abbrev pub end_of : Option Call → Option (Result Tree Stop) → Option End
end_of last None = None
end_of last (Some answer) = end_with last answer

-- of more than 2^64 - 1 others no more are counted
abbrev pub found_with : Option End → Furthest → Option Found
found_with None f = None
found_with (Some end) f = Some (record { end = end; told = f.told; more = min f.more (2 ^ 64 - 1) })

-- by n moves; none where it hasn't ended then
abbrev pub found_by : ℕ → Evaluation → Option Found
found_by n e = found_with (end_of (last_worked None n e) (ended (moves n e))) (furthest (stories n e))

-- what is found of an input by a grammar, with a memo
abbrev pub AreFindings : Grammar → List ℕ → Found → Type 0
AreFindings g input f = (n : ℕ) × (found_by n (opening g input (Some [])) ≡ Some f)
