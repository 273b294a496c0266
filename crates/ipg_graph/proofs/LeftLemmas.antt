-- How much of the search is left falls with each move.
use Rattle.std.proofs.Common.{◌≡◌, ℕ, zero, suc, ◌+◌, ◌-◌, ◌*◌, ◌^◌, ◌<◌, ◌≤◌, List, [], ◌∷◌, ◌++◌, length, arith}
use Rattle.std.proofs.Math.Nat.{mul-le-mul_right, pow-zero, pow-suc, pow-succ'}
use Rattle.ipg_graph.specs.Place.{left}

pow-pos : (b d : ℕ) → 0 < b → 0 < b ^ d
pow-pos b zero h = rw pow-zero (omega arith)
pow-pos b (suc d) h = rw pow-suc (omega (arith, mul-le-mul_right b (let one : 1 ≤ b ^ d = pow-pos b d h in one)))

less-digit : (m k k' b r : ℕ) → k < k' → k' ≤ m → 0 < b → r ≤ b → (m - k') * b + r < (m - k) * b + b
less-digit m k k' b r lt le pos small =
    omega (arith, mul-le-mul_right b (let h : (m - k') + 1 ≤ m - k = omega arith in h))

carry : (m k b : ℕ) → 0 < b → (m - k) * b + b < (m + 2) * b
carry m k b pos = omega (arith, mul-le-mul_right b (let h : (m - k) + 2 ≤ m + 2 = omega arith in h))

borrow : (m j k c r : ℕ) → j < k → k ≤ m → 0 < r → (m - k) * c + c < (m - j) * c + r
borrow m j k c r lt le pos = omega (arith, mul-le-mul_right c (let h : (m - k) + 1 ≤ m - j = omega arith in h))

pub left-skip : (m k k' : ℕ) → k < k' → k' ≤ m → (d : ℕ) (p : List ℕ) → length p < d → left m d (p ++ k' ∷ []) < left m d (p ++ k ∷ [])
unfolding left
left-skip m k k' lt le zero p room = absurd (omega arith)
left-skip m k k' lt le (suc d) [] room = less-digit m k k' _ _ lt le (pow-pos (m + 2) d (omega arith)) (omega arith)
left-skip m k k' lt le (suc d) (x ∷ p) room = omega (arith, left-skip m k k' lt le d p (omega arith))

pub left-push : (m k k' : ℕ) (d : ℕ) (p : List ℕ) → length p + 1 < d → left m d (p ++ (k ∷ k' ∷ [])) < left m d (p ++ k ∷ [])
unfolding left
left-push m k k' zero p room = absurd (omega arith)
left-push m k k' (suc zero) [] room = absurd (omega arith)
left-push m k k' (suc (suc d)) [] room =
    let more = carry m k' ((m + 2) ^ d) (pow-pos (m + 2) d (omega arith)) in
    let power : (m + 2) ^ suc d ≡ (m + 2) * (m + 2) ^ d = pow-succ' (m + 2) d in
    omega (arith, more, power)
left-push m k k' (suc d) (x ∷ p) room = omega (arith, left-push m k k' d p (omega arith))

pub left-pop : (m j k k' : ℕ) → j < k' → k' ≤ m → (d : ℕ) (p : List ℕ) → length p + 1 < d → left m d (p ++ k' ∷ []) < left m d (p ++ (j ∷ k ∷ []))
unfolding left
left-pop m j k k' lt le zero p room = absurd (omega arith)
left-pop m j k k' lt le (suc zero) [] room = absurd (omega arith)
left-pop m j k k' lt le (suc (suc d)) [] room =
    borrow m j k' ((m + 2) ^ suc d) _ lt le (omega (arith, pow-pos (m + 2) d (omega arith)))
left-pop m j k k' lt le (suc d) (x ∷ p) room = omega (arith, left-pop m j k k' lt le d p (omega arith))
