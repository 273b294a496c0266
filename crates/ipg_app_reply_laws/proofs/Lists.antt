-- Lists made item by item.
use Rattle.std.proofs.Common.{◌≡◌, ℕ, zero, suc, refl, ap, ◌∙◌, subst, List, [], ◌∷◌, map, Some}
use Rattle.std.specs.Prelude.{slice_get}

-- a list with an item for each item of another, at the same place
pub record Chosen {X Y Z : Type 0} (xs : List X) (R : ℕ → X → Y → Type 0) (f : X → Z) (h : Y → Z) : Type 0 where
  pub list : List Y
  pub each : (k : ℕ) (y : Y) → slice_get list k ≡ Some y → (x : X) × (slice_get xs k ≡ Some x) × R k x y
  pub same : map h list ≡ map f xs

more : {X Y Z : Type 0} (x : X) (xs : List X) (R : ℕ → X → Y → Type 0) (f : X → Z) (h : Y → Z) (y : Y) → R 0 x y
    → (rest : Chosen xs (λ k. R (suc k)) f h) → (k : ℕ) (z : Y) → slice_get (y ∷ rest.list) k ≡ Some z → (w : X) × (slice_get (x ∷ xs) k ≡ Some w) × R k w z
more x xs R f h y r rest zero z e = (x, refl, subst (R 0 x) (let same : y ≡ z = cc in same) r)
more x xs R f h y r rest (suc k) z e = rest.each k z e

pub choose : {X Y Z : Type 0} (xs : List X) (R : ℕ → X → Y → Type 0) (f : X → Z) (h : Y → Z) → ((k : ℕ) (x : X) (y : Y) → R k x y → h y ≡ f x)
    → ((k : ℕ) (x : X) → slice_get xs k ≡ Some x → (y : Y) × R k x y) → Chosen xs R f h
choose [] R f h same pick = record { list = []; each = λ k y e. absurd (cc); same = refl }
choose (x ∷ xs) R f h same pick =
    let first = pick zero x refl in
    let rest = choose xs (λ k. R (suc k)) f h (λ k. same (suc k)) (λ k. pick (suc k)) in
    record {
      list = first.0 ∷ rest.list;
      each = more x xs R f h first.0 first.1 rest;
      same = ap (λ z. z ∷ map h rest.list) (same zero x first.0 first.1) ∙ ap (λ zs. f x ∷ zs) rest.same;
    }
