-- What tests over lists tell.
use Rattle.std.proofs.Common.{◌≡◌, ℕ, zero, suc, ◌+◌, ◌<◌, ◌≤◌, Bool, true, false, not, ◌||◌, inl, inr, List, [], ◌∷◌, length, map}
use Rattle.std.proofs.Common.{Some, None, slice_get, get_or, refl, sym, ap, subst, ◌∙◌, nat_eq, nat_le, arith, true≢false, bytes_eq, ◌⊎◌}
use Rattle.std.specs.Bool.{Decides}
use Rattle.std.specs.List.{AllByRecursion, IsDistinct, list_all, list_any}
use Rattle.std.proofs.lemmas.Bool.Decides.{Decides-and, Decides-like, Decides-eqb, leb_tells}
use Rattle.std.proofs.lemmas.Option.{slice_get_cases}
use Rattle.ipg_core.specs.Grammar.{same_place}
use Rattle.ipg_store_adopt.specs.WellFormed.{all_from, all_differ}

pub never : {P : Type 0} → (P → ⊥) → Decides false P
never none = (λ e. absurd (true≢false (sym e)), λ p. absurd (none p))

pub always : {P : Type 0} → P → Decides true P
always p = (λ _. p, λ _. refl)

pub le_tells : (a b : ℕ) → Decides (nat_le a b) (a ≤ b)
le_tells a b = by (leb_tells a b)
  where
    by : ((nat_le a b ≡ true) × (a ≤ b)) ⊎ ((nat_le a b ≡ false) × (b < a)) → Decides (nat_le a b) (a ≤ b)
    by (inl h) = (λ _. h.1, λ _. h.0)
    by (inr h) = (λ e. absurd (true≢false (sym e ∙ h.0)), λ le. let lt = h.1 in absurd (omega arith))

pub some_same : {X : Type 0} (x y : X) → Some x ≡ Some y → x ≡ y
some_same x y e = cc

pub there : {X : Type 0} (xs : List X) (k : ℕ) → k < length xs → (x : X) × (slice_get xs k ≡ Some x)
there {X} xs k lt = by (slice_get_cases xs k).1
  where
    by : ((x : X) × (k < length xs) × (slice_get xs k ≡ Some x) × (get_or xs k x ≡ x)) ⊎ ((length xs ≤ k) × (slice_get xs k ≡ None))
        → (x : X) × (slice_get xs k ≡ Some x)
    by (inl h) = (h.0, h.2)
    by (inr h) = let le = h.0 in absurd (omega arith)

pub same_place_tells : (a b : ℕ × ℕ) → Decides (same_place a b) (a ≡ b)
same_place_tells a b =
    Decides-like (same_place a b) (λ h. λ i. (h.0 i, h.1 i)) (λ e. (ap (λ p. p.0) e, ap (λ p. p.1) e))
    (Decides-and (nat_eq a.0 b.0) (nat_eq a.1 b.1) (Decides-eqb a.0 b.0) (Decides-eqb a.1 b.1))

module _ {X : Type 0} where
  pub all_tells : (p : X → Bool) (P : X → Type 0) → ((x : X) → Decides (p x) (P x)) → (xs : List X) → Decides (list_all p xs) (AllByRecursion P xs)
  all_tells p P each [] = always tt
  all_tells p P each (x ∷ xs) = Decides-and (p x) (list_all p xs) (each x) (all_tells p P each xs)

  -- with the number of each item, the first of which has the number n
  module _ (p : ℕ → X → Bool) (P : ℕ → X → Type 0) (each : (k : ℕ) (x : X) → Decides (p k x) (P k x)) where
    abbrev EachFrom : ℕ → List X → Type 0
    EachFrom n xs = (k : ℕ) (x : X) → slice_get xs k ≡ Some x → P (n + k) x

    put : (n : ℕ) (x : X) (xs : List X) → P n x × EachFrom (n + 1) xs → EachFrom n (x ∷ xs)
    put n x xs h zero y e = subst (λ m. P m y) (let q : n ≡ n + 0 = omega arith in q) (subst (P n) (some_same x y e) h.0)
    put n x xs h (suc k) y e = subst (λ m. P m y) (let q : (n + 1) + k ≡ n + suc k = omega arith in q) (h.1 k y e)

    take_apart : (n : ℕ) (x : X) (xs : List X) → EachFrom n (x ∷ xs) → P n x × EachFrom (n + 1) xs
    take_apart n x xs h = (
      subst (λ m. P m x) (let q : n + 0 ≡ n = omega arith in q) (h 0 x refl),
      λ k y e. subst (λ m. P m y) (let q : n + suc k ≡ (n + 1) + k = omega arith in q) (h (suc k) y e),
    )

    from_tells : (n : ℕ) (xs : List X) → Decides (all_from p n xs) (EachFrom n xs)
    from_tells n [] = always (λ k x e. absurd (cc))
    from_tells n (x ∷ xs) =
        Decides-like (all_from p n (x ∷ xs)) (put n x xs) (take_apart n x xs)
        (Decides-and (p n x) (all_from p (n + 1) xs) (each n x) (from_tells (n + 1) xs))

    pub numbered_tells : (xs : List X) → Decides (all_from p 0 xs) ((k : ℕ) (x : X) → slice_get xs k ≡ Some x → P k x)
    numbered_tells xs =
        Decides-like (all_from p 0 xs)
        (λ h k x e. subst (λ m. P m x) (let q : 0 + k ≡ k = omega arith in q) (h k x e))
        (λ h k x e. subst (λ m. P m x) (let q : k ≡ 0 + k = omega arith in q) (h k x e))
        (from_tells 0 xs)

  -- whatever the number
  module _ (p : X → Bool) (P : X → Type 0) (each : (x : X) → Decides (p x) (P x)) where
    pub each_tells : (xs : List X) → Decides (list_all p xs) ((k : ℕ) (x : X) → slice_get xs k ≡ Some x → P x)
    each_tells [] = always (λ k x e. absurd (cc))
    each_tells (x ∷ xs) = Decides-like (list_all p (x ∷ xs)) to from (Decides-and (p x) (list_all p xs) (each x) (each_tells xs))
      where
        to : P x × ((k : ℕ) (y : X) → slice_get xs k ≡ Some y → P y) → (k : ℕ) (y : X) → slice_get (x ∷ xs) k ≡ Some y → P y
        to h zero y e = subst P (some_same x y e) h.0
        to h (suc k) y e = h.1 k y e

        from : ((k : ℕ) (y : X) → slice_get (x ∷ xs) k ≡ Some y → P y) → P x × ((k : ℕ) (y : X) → slice_get xs k ≡ Some y → P y)
        from h = (h 0 x refl, λ k y e. h (suc k) y e)

  none_tells : (p : X → Bool) (xs : List X) → Decides (not (list_any p xs)) (AllByRecursion (λ y. p y ≡ false) xs)
  none_tells p [] = always tt
  none_tells p (x ∷ xs) = by (p x) refl (none_tells p xs)
    where
      by : (b : Bool) → p x ≡ b → Decides (not (list_any p xs)) (AllByRecursion (λ y. p y ≡ false) xs)
          → Decides (not (b || list_any p xs)) ((p x ≡ false) × AllByRecursion (λ y. p y ≡ false) xs)
      by true e behind = never (λ h. true≢false (sym e ∙ h.0))
      by false e behind = Decides-like (not (list_any p xs)) (λ h. (e, h)) (λ h. h.1) behind

pub differ_tells : (names : List (List ℕ)) → Decides (all_differ names) (IsDistinct bytes_eq names)
unfolding IsDistinct
differ_tells [] = always tt
differ_tells (name ∷ names) =
    Decides-and (not (list_any (bytes_eq name) names)) (all_differ names) (none_tells (bytes_eq name) names) (differ_tells names)

-- keys that are read by a function
module _ {K L : Type 0} (read : K → L) (same : L → L → Bool) where
  apart_read : (x : K) (xs : List K) → AllByRecursion (λ y. same (read x) (read y) ≡ false) xs → AllByRecursion (λ y. same (read x) y ≡ false) (map read xs)
  apart_read x [] h = tt
  apart_read x (y ∷ xs) h = (h.0, apart_read x xs h.1)

  read_apart : (x : K) (xs : List K) → AllByRecursion (λ y. same (read x) y ≡ false) (map read xs) → AllByRecursion (λ y. same (read x) (read y) ≡ false) xs
  read_apart x [] h = tt
  read_apart x (y ∷ xs) h = (h.0, read_apart x xs h.1)

  pub distinct_read : (xs : List K) → IsDistinct (λ x y. same (read x) (read y)) xs → IsDistinct same (map read xs)
  unfolding IsDistinct
  distinct_read [] h = tt
  distinct_read (x ∷ xs) h = (apart_read x xs h.0, distinct_read xs h.1)

  pub read_distinct : (xs : List K) → IsDistinct same (map read xs) → IsDistinct (λ x y. same (read x) (read y)) xs
  unfolding IsDistinct
  read_distinct [] h = tt
  read_distinct (x ∷ xs) h = (read_apart x xs h.0, read_distinct xs h.1)
