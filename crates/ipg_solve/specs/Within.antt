-- Values within their bounds.
use Rattle.std.specs.Prelude.{ℕ, ◌<◌, ℤ, pos, ◌≤ℤ◌, List, length, slice_index_or}

abbrev pub no_bounds : ℤ × ℤ
no_bounds = (pos 0, pos 0)

-- each value is within the bounds at its place
abbrev pub AreWithin : List ℤ → List (ℤ × ℤ) → Type 0
AreWithin values bounds =
    (x : ℕ) → x < length bounds → ((slice_index_or bounds x no_bounds).0 ≤ℤ slice_index_or values x (pos 0)) ×
    (slice_index_or values x (pos 0) ≤ℤ (slice_index_or bounds x no_bounds).1)
