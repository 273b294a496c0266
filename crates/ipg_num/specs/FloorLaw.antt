-- Floor division by a divisor above 0: the quotient's product and what is left give the dividend, and what is left is from 0 to one less than the divisor.
use Rattle.std.specs.Prelude.{◌≡◌, ℕ, ◌<◌, ℤ, pos, ◌+ℤ◌, ◌*ℤ◌, ◌≤ℤ◌, ◌<ℤ◌}
use Rattle.ipg_num.specs.Number.{floor_div, floor_mod}

abbrev pub DividesByFloor : Type 0
DividesByFloor = (a : ℤ) (d : ℕ) → 0 < d
    → (floor_div a d *ℤ pos d +ℤ floor_mod a d ≡ a) × (pos 0 ≤ℤ floor_mod a d) × (floor_mod a d <ℤ pos d)
