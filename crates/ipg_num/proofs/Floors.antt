-- The quotient's product and what is left give the dividend.
use Rattle.std.proofs.Common.{◌≡◌, ℕ, suc, ◌+◌, ◌-◌, ◌*◌, ◌/◌, ◌%◌, ◌<◌, ap, arith}
use Rattle.std.specs.Prelude.{pos, negsuc, ◌+ℤ◌, ◌≤ℤ◌, ◌<ℤ◌, neg_ℤ}
use Rattle.std.proofs.lemmas.Nat.{div-add-mod'}
use Rattle.std.proofs.Math.Nat.{mod-lt, suc-mul}
use Rattle.std.proofs.lemmas.Int.{ints}
use Rattle.ipg_num.specs.FloorLaw.{DividesByFloor}

below_zero : (a d r p s : ℕ) → p + r ≡ a → r < d → s ≡ p + d → neg_ℤ (pos s) +ℤ pos (d - 1 - r) ≡ negsuc a
below_zero a d r p s whole less next = omega (arith, ints)

under : (d r : ℕ) → r < d → pos r <ℤ pos d
under d r less = omega (arith, ints)

rest_under : (d r : ℕ) → 0 < d → pos (d - 1 - r) <ℤ pos d
rest_under d r some = omega (arith, ints)

least : (n : ℕ) → pos 0 ≤ℤ pos n
least n = omega (arith, ints)

pub divides : DividesByFloor
divides (pos a) d some = (ap pos (div-add-mod' a d), least (a % d), under d (a % d) (mod-lt a some))
divides (negsuc a) d some = (
  below_zero a d (a % d) (a / d * d) (suc (a / d) * d) (div-add-mod' a d) (mod-lt a some) (suc-mul (a / d) d),
  least (d - 1 - a % d),
  rest_under d (a % d) some,
)
