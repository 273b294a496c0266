-- Counts of faults, which never fall.
use Rattle.std.specs.Prelude.{ℕ, ◌+◌, ◌-◌, ◌^◌, ◌<◌, ◌≤◌, ◌⊎◌, min}

-- a count stops here
abbrev pub last_count : ℕ
last_count = 2 ^ 64 - 1

-- one more, up to the last count
abbrev pub counted_up : ℕ → ℕ
counted_up n = min (n + 1) last_count

-- in a call a count has grown, or stands at its last value
abbrev pub Rose : ℕ → ℕ → Type 0
Rose before after = (before < after) ⊎ (last_count ≤ after)
