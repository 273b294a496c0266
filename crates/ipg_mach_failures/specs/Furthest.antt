-- The failures that an evaluation meets, each with what its term reads and the calls that are open then, and the furthest of them.
use Rattle.std.specs.Prelude.{ℕ, zero, suc, ◌+◌, List, [], ◌∷◌, ◌++◌, length, Option, Some, None, Bool, false, nat_eq, nat_lt, if◌then◌else◌, ◌&&◌, ◌||◌}
use Rattle.ipg_mach_moves.specs.Moves.{Evaluation, Highest, Works, Holds, move}
use Rattle.ipg_mach_failures.specs.declared.failure.Failure.{Failure}
use Rattle.ipg_mach_failures.specs.declared.story.Call.{Call}
use Rattle.ipg_mach_failures.specs.declared.story.Story.{Story}
use Rattle.ipg_mach_failures.specs.declared.values.Valued.{Valued}
use Rattle.ipg_mach_failures.specs.Failing.{call_fails}
use Rattle.ipg_mach_failures.specs.Chain.{calls_of, story}
use Rattle.ipg_mach_failures.specs.Values.{values_of}

abbrev pub highest_fails : Highest → Option Failure
highest_fails (Works c) = call_fails c
highest_fails (Holds key answer) = None

-- the term at hand of the highest call, where that fails by itself
abbrev pub failure_of : Evaluation → Option Failure
failure_of e = highest_fails e.highest

-- what that term reads where it fails so
abbrev pub highest_reads : Highest → Failure → List Valued
highest_reads (Works c) failure = values_of c failure
highest_reads (Holds key answer) failure = []

abbrev pub story_with : List Call → (Failure → List Valued) → Option Failure → Option Story
story_with calls read None = None
story_with calls read (Some failure) = Some (story calls (read failure) failure)

-- with the calls that are open below the highest one
abbrev pub story_of : Evaluation → Option Story
story_of e = story_with (calls_of e) (highest_reads e.highest) (failure_of e)

abbrev pub in_front : Option Story → List Story → List Story
in_front None met = met
in_front (Some story) met = story ∷ met

-- those that n moves meet, in order
unfoldable pub stories : ℕ → Evaluation → List Story
stories zero e = []
stories (suc n) e = in_front (story_of e) (stories n (move e))

-- ---- the furthest

-- the same term of the same alternative of a rule, at the same branch: one place of the grammar, told once
abbrev pub alike : Failure → Failure → Bool
alike a b = nat_eq a.rule b.rule && nat_eq a.alt b.alt && nat_eq a.term b.term && nat_eq a.branch b.branch

abbrev pub is_told : List Story → Failure → Bool
is_told [] failure = false
is_told (one ∷ told) failure = alike one.failure failure || is_told told failure

-- those at the greatest place, in the order in which they were met, each once, the first eight; and how often others were
-- met there
pub record Furthest : Type 0 where
  pub told : List Story
  pub more : ℕ

abbrev pub none_met : Furthest
none_met = record { told = []; more = 0 }

abbrev pub only : Story → Furthest
only story = record { told = story ∷ []; more = 0 }

-- one more at the same place
abbrev pub with_one : Furthest → Story → Furthest
with_one f story =
    if is_told f.told story.failure then f
    else if nat_lt (length f.told) 8 then record { told = f.told ++ story ∷ []; more = f.more }
    else record { told = f.told; more = f.more + 1 }

-- one more, where those so far are at this place
abbrev pub further : Furthest → ℕ → Story → Furthest
further f place story =
    if nat_lt story.failure.place place then f
    else if nat_lt place story.failure.place then only story
    else with_one f story

-- the place is that of the first
abbrev pub after : Furthest → List Story → Story → Furthest
after f [] story = only story
after f (one ∷ told) story = further f one.failure.place story

abbrev pub furthest_with : Furthest → Option Story → Furthest
furthest_with f None = f
furthest_with f (Some story) = after f f.told story

abbrev pub furthest_from : Furthest → List Story → Furthest
furthest_from f [] = f
furthest_from f (story ∷ met) = furthest_from (furthest_with f (Some story)) met

-- of failures in the order in which they were met
abbrev pub furthest : List Story → Furthest
furthest met = furthest_from none_met met
