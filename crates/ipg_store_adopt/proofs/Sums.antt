-- Sums that stay at the greatest number.
use Rattle.std.proofs.Common.{◌≡◌, ℕ, ◌+◌, ◌-◌, ◌^◌, ◌≤◌, ◌<◌, min, List, ◌∷◌, length, drop, nat_lt, sym, ap, ◌∙◌, arith}
use Rattle.std.specs.List.{sum_by}
use Rattle.std.proofs.lemmas.Bool.Decides.{Decides-like, Decides-ltb, same_from_decides}
use Rattle.std.proofs.lemmas.List.Sums.{sum_by-cons}
use Rattle.std.proofs.Math.ListN.{drop_of_length-le}
use Rattle.ipg_store_adopt.specs.Slots.{capped}

twice : (m t x r : ℕ) → min (min (t + min x m) m + r) m ≡ min (t + (x + r)) m
twice m t x r = omega arith

module _ {X : Type 0} (f : X → ℕ) where
  pub begins : (xs : List X) → capped (0 + sum_by f xs) ≡ capped (sum_by f xs)
  begins xs = ap capped (let e : 0 + sum_by f xs ≡ sum_by f xs = omega arith in e)

  pub goes_on : (t : ℕ) (x : X) (xs : List X) → capped (capped (t + capped (f x)) + sum_by f xs) ≡ capped (t + sum_by f (x ∷ xs))
  goes_on t x xs = twice (2 ^ 64 - 1) t (f x) (sum_by f xs) ∙ ap (λ n. capped (t + n)) (sym (sum_by-cons f x xs))

pub ends : (t : ℕ) → t < 2 ^ 64 → capped (t + 0) ≡ t
ends t lt = omega arith

module _ {X : Type 0} (f : X → ℕ) where
  -- where nothing is left, what is counted is the whole
  pub whole : (t k n : ℕ) (xs : List X) → length xs ≤ k → t < 2 ^ 64 → capped (t + sum_by f (drop k xs)) ≡ n → t ≡ n
  whole t k n xs le lt h = sym (ends t lt) ∙ ap (λ ys. capped (t + sum_by f ys)) (sym (drop_of_length-le xs le)) ∙ h

pub few : (n : ℕ) → nat_lt (capped n) (2 ^ 32) ≡ nat_lt n (2 ^ 32)
few n =
    same_from_decides (nat_lt (capped n) (2 ^ 32)) (nat_lt n (2 ^ 32))
    (Decides-like (nat_lt (capped n) (2 ^ 32)) to from (Decides-ltb (capped n) (2 ^ 32))) (Decides-ltb n (2 ^ 32))
  where
    to : capped n < 2 ^ 32 → n < 2 ^ 32
    to h = omega arith

    from : n < 2 ^ 32 → capped n < 2 ^ 32
    from h = omega arith
