-- The binary digits of two numbers that aren't negative make such a number.
use Rattle.std.proofs.Common.{ℕ, ◌<◌, ◌^◌}
use Rattle.std.specs.Prelude.{bit_or, bit_xor}
use Rattle.std.proofs.lemmas.Nat.{or_lt, xor_lt}

pub or_63 : (a b : ℕ) → a < 2 ^ 63 → b < 2 ^ 63 → bit_or a b < 2 ^ 63
or_63 a b = or_lt 63 a b

pub xor_63 : (a b : ℕ) → a < 2 ^ 63 → b < 2 ^ 63 → bit_xor a b < 2 ^ 63
xor_63 a b = xor_lt 63 a b
