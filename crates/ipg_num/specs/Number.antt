-- What the operators give: a whole number without limits, held against the limits of a number afterwards.
use Rattle.std.specs.Prelude.{ℕ, ◌-◌, ◌*◌, ◌/◌, ◌%◌, ◌^◌, Bool, not, ℤ, pos, negsuc, ◌+ℤ◌, ◌-ℤ◌, ◌*ℤ◌, neg_ℤ}
use Rattle.std.specs.Prelude.{nat_lt, int_lt, int_le, bit_and, bit_or, bit_xor, if◌then◌else◌}
use Rattle.std.specs.Ordering.{int_eq}
use Rattle.ipg_num.specs.declared.op.Op2.{Op2}
use Rattle.ipg_num.specs.declared.op.Op2.TheVariants.{Add, Sub, Mul, Div, Mod, Shl, Shr, BitAnd, BitOr, BitXor, Eq, Ne, Lt, Le, Gt, Ge}
use Rattle.ipg_num.specs.declared.op.Answer.{Answer}
use Rattle.ipg_num.specs.declared.op.Answer.TheVariants.{Val, Fail, Range}

-- the whole number, where it is from -2^63 to 2^63 - 1
abbrev pub limited : ℤ → Answer
limited (pos n) = if nat_lt n (2 ^ 63) then Val (pos n) else Range
limited (negsuc n) = if nat_lt n (2 ^ 63) then Val (negsuc n) else Range

-- the greatest whole number whose product with the divisor is at most the dividend: `negsuc a` is -(a + 1)
abbrev pub floor_div : ℤ → ℕ → ℤ
floor_div (pos a) d = pos (a / d)
floor_div (negsuc a) d = negsuc (a / d)

-- what that product leaves of the dividend, from 0 to one less than the divisor
abbrev pub floor_mod : ℤ → ℕ → ℤ
floor_mod (pos a) d = pos (a % d)
floor_mod (negsuc a) d = pos (d - 1 - a % d)

-- only by a divisor above 0
abbrev pub by_divisor : (ℤ → ℕ → ℤ) → ℤ → ℤ → Answer
by_divisor f a (pos d) = if nat_lt 0 d then Val (f a d) else Fail
by_divisor f a (negsuc d) = Fail

-- only of a number that isn't negative, by 0 to 63 places
abbrev pub by_places : (ℕ → ℕ → Answer) → ℤ → ℤ → Answer
by_places f (pos a) (pos s) = if nat_lt s 64 then f a s else Fail
by_places f (pos a) (negsuc s) = Fail
by_places f (negsuc a) s = Fail

-- only of numbers that aren't negative
abbrev pub on_digits : (ℕ → ℕ → ℕ) → ℤ → ℤ → Answer
on_digits f (pos a) (pos b) = Val (pos (f a b))
on_digits f (pos a) (negsuc b) = Fail
on_digits f (negsuc a) b = Fail

abbrev pub flag : Bool → Answer
flag b = Val (pos (if b then 1 else 0))

abbrev pub apply_of : Op2 → ℤ → ℤ → Answer
apply_of Add a b = limited (a +ℤ b)
apply_of Sub a b = limited (a -ℤ b)
apply_of Mul a b = limited (a *ℤ b)
apply_of Div a b = by_divisor floor_div a b
apply_of Mod a b = by_divisor floor_mod a b
apply_of Shl a b = by_places (λ n s. limited (pos (n * 2 ^ s))) a b
apply_of Shr a b = by_places (λ n s. Val (pos (n / 2 ^ s))) a b
apply_of BitAnd a b = on_digits bit_and a b
apply_of BitOr a b = on_digits bit_or a b
apply_of BitXor a b = on_digits bit_xor a b
apply_of Eq a b = flag (int_eq a b)
apply_of Ne a b = flag (not (int_eq a b))
apply_of Lt a b = flag (int_lt a b)
apply_of Le a b = flag (int_le a b)
apply_of Gt a b = flag (int_lt b a)
apply_of Ge a b = flag (int_le b a)

abbrev pub negate_of : ℤ → Answer
negate_of a = limited (neg_ℤ a)
