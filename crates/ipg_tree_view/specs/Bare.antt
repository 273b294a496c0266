-- The places of an input that no leaf of a tree has.
use Rattle.std.specs.Prelude.{ℕ, zero, suc, ◌+◌, ◌-◌, min, length, List, [], ◌∷◌, ◌++◌, Bool, true, false, not, ◌&&◌, nat_le, nat_lt, Option, None, Some}
use Rattle.ipg_core.specs.Touch.{width}
use Rattle.ipg_core.specs.Tree.{Kid, Sub, Token, Number, Raw, Array, Many}
use Rattle.ipg_tree_walk.specs.Visits.{Seen}

abbrev pub is_among : ℕ → ℕ → ℕ → Bool
is_among from to place = nat_le from place && nat_lt place to

-- where the first `count` bytes of an interval end
abbrev pub end_of : ℕ → ℕ → ℕ → ℕ
end_of from to count = from + min count (to - from)

-- a child is a leaf, and has the byte at a place of the input, where its part begins at `at`: of its interval a terminal has as many bytes
-- as its text, a number as many as its width, and raw bytes have all
abbrev pub has_byte : ℕ → ℕ → Kid → Bool
has_byte place at (Sub from to sub) = false
has_byte place at (Token from to bytes) = is_among (at + from) (end_of (at + from) (at + to) (length bytes)) place
has_byte place at (Number from to prim high low) = is_among (at + from) (end_of (at + from) (at + to) (width prim)) place
has_byte place at (Raw from to bytes) = is_among (at + from) (at + to) place
has_byte place at (Array sym items) = false
has_byte place at (Many sym items) = false

-- no leaf among these has it
abbrev pub none_has : ℕ → List Seen → Bool
none_has place [] = true
none_has place (one ∷ more) = not (has_byte place one.at one.child) && none_has place more

-- whether none has it, for each of n places from `at` on
abbrev pub bare_from : ℕ → ℕ → List Seen → List Bool
bare_from at zero seen = []
bare_from at (suc n) seen = none_has at seen ∷ bare_from (at + 1) n seen

abbrev pub bare_of : ℕ → List Seen → List Bool
bare_of n seen = bare_from 0 n seen

-- a run of bare places that began at one and ends before another, if one began
abbrev pub ended : ℕ → Option ℕ → List (ℕ × ℕ)
ended at None = []
ended at (Some from) = (from, at) ∷ []

-- at a bare place no run ends
abbrev pub ended_at : Bool → ℕ → Option ℕ → List (ℕ × ℕ)
ended_at true at begun = []
ended_at false at begun = ended at begun

abbrev pub begun_at : Bool → ℕ → Option ℕ → Option ℕ
begun_at true at None = Some at
begun_at true at (Some from) = Some from
begun_at false at begun = None

-- the ends of each run of bare places; the first of these places is `at`, and a run may have begun before it
abbrev pub runs : ℕ → Option ℕ → List Bool → List (ℕ × ℕ)
runs at begun [] = ended at begun
runs at begun (is_bare ∷ bare) = ended_at is_bare at begun ++ runs (at + 1) (begun_at is_bare at begun) bare
