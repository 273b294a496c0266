-- A variable that can have no value.
use Rattle.std.specs.Prelude.{◌≡◌, ℕ, ℤ, ◌<ℤ◌, List, slice_get, Some}

-- the variable's least value is above its greatest
abbrev pub IsCrossed : List (ℤ × ℤ) → ℕ → Type 0
IsCrossed bounds x = (low : ℤ) × (high : ℤ) × (slice_get bounds x ≡ Some (low, high)) × (high <ℤ low)
