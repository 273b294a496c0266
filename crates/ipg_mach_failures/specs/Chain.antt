-- The calls that are open below the highest one, and which of them are shown.
use Rattle.std.specs.Prelude.{ℕ, ◌+◌, ◌-◌, List, [], ◌∷◌, ◌++◌, length, take, drop, nat_lt, if◌then◌else◌}
use Rattle.ipg_mach_moves.specs.Moves.{OpenCall, Evaluation}
use Rattle.ipg_mach_failures.specs.declared.failure.Failure.{Failure}
use Rattle.ipg_mach_failures.specs.declared.story.Call.{Call}
use Rattle.ipg_mach_failures.specs.declared.story.Story.{Story}
use Rattle.ipg_mach_failures.specs.declared.values.Valued.{Valued}

-- the number of the term at hand
abbrev pub first_left : List ℕ → ℕ
first_left [] = 0
first_left (u ∷ left) = u

abbrev pub call_of : OpenCall → Call
call_of c = record { rule = c.frame.rule; alt = c.frame.alt; term = first_left c.left; from = c.from; to = c.from + length c.frame.bytes }

-- calls with the nearest first, from the first rule on
abbrev pub calls_in : List OpenCall → List Call
calls_in [] = []
calls_in (c ∷ lower) = calls_in lower ++ call_of c ∷ []

-- those that wait for the one above them
abbrev pub calls_of : Evaluation → List Call
calls_of e = calls_in e.lower

-- all where they are at most twelve, else the first four and the last eight
abbrev pub shown : List Call → List Call
shown calls = if nat_lt 12 (length calls) then take 4 calls ++ drop (length calls - 8) calls else calls

-- how many between these are left out
abbrev pub left_out : List Call → ℕ
left_out calls = length calls - 12

-- a failure with these values, above these open calls
abbrev pub story : List Call → List Valued → Failure → Story
story calls values failure = record { failure = failure; values = values; calls = shown calls; left_out = left_out calls }
