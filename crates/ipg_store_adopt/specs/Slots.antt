-- A count of slots in 64 bits, which stays at the greatest number once it is there.
use Rattle.std.specs.Prelude.{ℕ, ◌^◌, ◌-◌, min}

abbrev pub capped : ℕ → ℕ
capped n = min n (2 ^ 64 - 1)
