-- Items of a list that are found, and where.
use Rattle.std.proofs.Common.{◌≡◌, ℕ, zero, suc, ◌+◌, ◌<◌, Bool, true, false, ◌||◌, ◌⊎◌, inl, inr, List, [], ◌∷◌, ◌++◌, length, map}
use Rattle.std.proofs.Common.{take, drop, Option, Some, None, slice_get, refl, sym, ap, subst, ◌∙◌, cond, arith, true≢false}
use Rattle.std.specs.List.{AllByRecursion, list_any}
use Rattle.ipg_names_scope.specs.Nearest.{first_from, last_from, or_else, left_of, right_of, nearest}
use Rattle.ipg_names.specs.declared.fault.NameFault.{NameFault}
use Rattle.ipg_names.proofs.Mentions.{both_none}

pub record Found {A : Type 0} (p : A → Bool) (xs : List A) (v : ℕ) : Type 0 where
  pub item : A
  pub is : slice_get xs v ≡ Some item
  pub passes : p item ≡ true

pub get_below : {A : Type 0} (xs : List A) (k : ℕ) (x : A) → slice_get xs k ≡ Some x → k < length xs
get_below [] k x h = absurd (cc)
get_below (y ∷ xs) zero x h = omega arith
get_below (y ∷ xs) (suc k) x h = omega (arith, get_below xs k x h)

pub all_get : {A : Type 0} (P : A → Type 0) (xs : List A) (k : ℕ) (x : A) → AllByRecursion P xs → slice_get xs k ≡ Some x → P x
all_get P [] k x h e = absurd (cc)
all_get P (y ∷ xs) zero x h e = subst P (let same : y ≡ x = cc in same) h.0
all_get P (y ∷ xs) (suc k) x h e = all_get P xs k x h.1 e

-- an item of a mapped list is that of an item
pub of_item : {A B : Type 0} (f : A → B) (xs : List A) (n : ℕ) (y : B) → slice_get (map f xs) n ≡ Some y → (x : A) × (slice_get xs n ≡ Some x) × (y ≡ f x)
of_item f [] n y e = absurd (cc)
of_item f (x ∷ xs) zero y e = (x, refl, cc)
of_item f (x ∷ xs) (suc n) y e = of_item f xs n y e

pub item_map : {A B : Type 0} (f : A → B) (xs : List A) (n : ℕ) (x : A) → slice_get xs n ≡ Some x → slice_get (map f xs) n ≡ Some (f x)
item_map f [] n x e = absurd (cc)
item_map f (y ∷ xs) zero x e = ap (λ z. Some (f z)) (let same : y ≡ x = cc in same)
item_map f (y ∷ xs) (suc n) x e = item_map f xs n x e

module _ {A : Type 0} (p : A → Bool) where
  pub any_found : (xs : List A) → list_any p xs ≡ true → (v : ℕ) × Found p xs v
  any_found [] h = absurd (true≢false (sym h))
  any_found (x ∷ xs) h = by (p x) refl h (any_found xs)
    where
      by : (b : Bool) → p x ≡ b → (b || list_any p xs) ≡ true → (list_any p xs ≡ true → (v : ℕ) × Found p xs v) → (v : ℕ) × Found p (x ∷ xs) v
      by true e k f = (0, record { item = x; is = refl; passes = e })
      by false e k f = let w = f k in (suc w.0, record { item = w.1.item; is = w.1.is; passes = w.1.passes })

  or_right : (b c : Bool) → c ≡ true → (b || c) ≡ true
  or_right true c h = refl
  or_right false c h = h

  pub any_at : (xs : List A) (k : ℕ) (x : A) → slice_get xs k ≡ Some x → p x ≡ true → list_any p xs ≡ true
  any_at [] k x h e = absurd (cc)
  any_at (y ∷ xs) zero x h e = ap (λ b. b || list_any p xs) (ap p (let same : y ≡ x = cc in same) ∙ e)
  any_at (y ∷ xs) (suc k) x h e = or_right (p y) (list_any p xs) (any_at xs k x h e)

  pub first_found : (n : ℕ) (xs : List A) (v : ℕ) → first_from p n xs ≡ Some v → (k : ℕ) × (v ≡ n + k) × Found p xs k
  first_found n [] v h = absurd (cc)
  first_found n (x ∷ xs) v h = by (p x) refl h (first_found (n + 1) xs v)
    where
      by : (b : Bool) → p x ≡ b → cond b (Some n) (first_from p (n + 1) xs) ≡ Some v → (first_from p (n + 1) xs ≡ Some v
          → (k : ℕ) × (v ≡ n + 1 + k) × Found p xs k)
          → (k : ℕ) × (v ≡ n + k) × Found p (x ∷ xs) k
      by true e k f = (0, (let same : n ≡ v = cc in omega (arith, same)), record { item = x; is = refl; passes = e })
      by false e k f = let w = f k in (suc w.0, omega (arith, w.1), record { item = w.2.item; is = w.2.is; passes = w.2.passes })

  pub last_found : (n : ℕ) (found : Option ℕ) (xs : List A) (v : ℕ) → last_from p n found xs ≡ Some v
      → (found ≡ Some v) ⊎ ((k : ℕ) × (v ≡ n + k) × Found p xs k)
  last_found n found [] v h = inl h
  last_found n found (x ∷ xs) v h = by (p x) refl (last_found (n + 1) (cond (p x) (Some n) found) xs v h)
    where
      by : (b : Bool) → p x ≡ b → (cond (p x) (Some n) found ≡ Some v) ⊎ ((k : ℕ) × (v ≡ n + 1 + k) × Found p xs k)
          → (found ≡ Some v) ⊎ ((k : ℕ) × (v ≡ n + k) × Found p (x ∷ xs) k)
      by b e (inr w) = inr (suc w.0, omega (arith, w.1), record { item = w.2.item; is = w.2.is; passes = w.2.passes })
      by true e (inl k) = inr (
        0,
        (let same : n ≡ v = here (sym (ap (λ c. cond c (Some n) found) e)
            ∙ k) in omega (arith, same)),
        record { item = x; is = refl; passes = e },
      )
        where
          here : Some n ≡ Some v → n ≡ v
          here q = cc
      by false e (inl k) = inl (sym (ap (λ c. cond c (Some n) found) e) ∙ k)

  pub get_take : (u : ℕ) (xs : List A) (k : ℕ) (x : A) → slice_get (take u xs) k ≡ Some x → slice_get xs k ≡ Some x
  get_take zero xs k x h = absurd (cc)
  get_take (suc u) [] k x h = absurd (cc)
  get_take (suc u) (y ∷ xs) zero x h = h
  get_take (suc u) (y ∷ xs) (suc k) x h = get_take u xs k x h

  pub take_get : (u : ℕ) (xs : List A) (k : ℕ) (x : A) → k < u → slice_get xs k ≡ Some x → slice_get (take u xs) k ≡ Some x
  take_get zero xs k x lt h = absurd (omega arith)
  take_get (suc u) [] k x lt h = absurd (cc)
  take_get (suc u) (y ∷ xs) zero x lt h = h
  take_get (suc u) (y ∷ xs) (suc k) x lt h = take_get u xs k x (omega arith) h

  pub get_drop : (m : ℕ) (xs : List A) (k : ℕ) (x : A) → slice_get (drop m xs) k ≡ Some x → slice_get xs (m + k) ≡ Some x
  get_drop zero xs k x h = ap (slice_get xs) (let e : 0 + k ≡ k = omega arith in e) ∙ h
  get_drop (suc m) [] k x h = absurd (cc)
  get_drop (suc m) (y ∷ xs) k x h = ap (slice_get (y ∷ xs)) (let e : suc m + k ≡ suc (m + k) = omega arith in e) ∙ get_drop m xs k x h

  pub nearest_found : (xs : List A) (u v : ℕ) → nearest p xs u ≡ Some v → Found p xs v
  nearest_found xs u v h = by (left_of p xs u) refl h
    where
      at : (n m : ℕ) → n ≡ m → Found p xs n → Found p xs m
      at n m e f = subst (Found p xs) e f

      left : (k : ℕ) → v ≡ 0 + k → Found p (take u xs) k → Found p xs v
      left k e f = at k v (omega (arith, e)) (record { item = f.item; is = get_take u xs k f.item f.is; passes = f.passes })

      none : (k : Option ℕ) → k ≡ None → k ≡ Some v → ⊥
      none k e f = cc

      of_left : (last_from p 0 None (take u xs) ≡ Some v) → Found p xs v
      of_left e = pick (last_found 0 None (take u xs) v e)
        where
          pick : ((let n : Option ℕ = None in n) ≡ Some v) ⊎ ((k : ℕ) × (v ≡ 0 + k) × Found p (take u xs) k) → Found p xs v
          pick (inl e) = absurd (none None refl e)
          pick (inr w) = left w.0 w.1 w.2

      by : (o : Option ℕ) → left_of p xs u ≡ o → or_else o (right_of p xs u) ≡ Some v → Found p xs v
      by (Some k) e f = of_left (e ∙ f)
      by None e f =
          let w = first_found (u + 1) (drop (u + 1) xs) v f in
          at (u + 1 + w.0) v (sym w.1) (record { item = w.2.item; is = get_drop (u + 1) xs w.0 w.2.item w.2.is; passes = w.2.passes })

-- ---- lists that are made item by item, with their numbers

module _ {A B : Type 0} (made_from : ℕ → List A → List B) (make : ℕ → A → B)
    (on : (n : ℕ) (x : A) (xs : List A) → made_from n (x ∷ xs) ≡ make n x ∷ made_from (n + 1) xs) (none : (n : ℕ) → made_from n [] ≡ []) where
  pub of_made : (n : ℕ) (xs : List A) (k : ℕ) (y : B) → slice_get (made_from n xs) k ≡ Some y → (x : A) × (slice_get xs k ≡ Some x) × (y ≡ make (n + k) x)
  of_made n [] k y h = absurd (let e : slice_get (let l : List B = [] in l) k ≡ Some y = ap (λ l. slice_get l k) (sym (none n)) ∙ h in cc)
  of_made n (x ∷ xs) zero y h =
      let e : Some (make n x) ≡ Some y = ap (λ l. slice_get l 0) (sym (on n x xs)) ∙ h in
      (x, refl, (let same : y ≡ make n x = cc in same) ∙ ap (λ m. make m x) (let e : n ≡ n + 0 = omega arith in e))
  of_made n (x ∷ xs) (suc k) y h =
      let w = of_made (n + 1) xs k y (ap (λ l. slice_get l (suc k)) (sym (on n x xs)) ∙ h) in
      (w.0, w.1, w.2 ∙ ap (λ m. make m w.0) (let e : n + 1 + k ≡ n + suc k = omega arith in e))

  pub made_at : (n : ℕ) (xs : List A) (k : ℕ) (x : A) → slice_get xs k ≡ Some x → slice_get (made_from n xs) k ≡ Some (make (n + k) x)
  made_at n [] k x h = absurd (cc)
  made_at n (y ∷ xs) zero x h =
      ap (λ l. slice_get l 0) (on n y xs) ∙ ap (λ z. Some (make n z)) (let same : y ≡ x = cc in same)
      ∙ ap (λ m. Some (make m x)) (let e : n ≡ n + 0 = omega arith in e)
  made_at n (y ∷ xs) (suc k) x h =
      ap (λ l. slice_get l (suc k)) (on n y xs) ∙ made_at (n + 1) xs k x h ∙ ap (λ m. Some (make m x)) (let e : n + 1 + k ≡ n + suc k = omega arith in e)

  pub made_length : (n : ℕ) (xs : List A) → length (made_from n xs) ≡ length xs
  made_length n [] = ap length (none n)
  made_length n (x ∷ xs) = ap length (on n x xs) ∙ ap suc (made_length (n + 1) xs)

module _ {A : Type 0} (faults_from : ℕ → List A → List NameFault) (faults_at : ℕ → A → List NameFault)
    (on : (n : ℕ) (x : A) (xs : List A) → faults_from n (x ∷ xs) ≡ faults_at n x ++ faults_from (n + 1) xs) where
  pub faultless_at : (n : ℕ) (xs : List A) (k : ℕ) (x : A) → faults_from n xs ≡ [] → slice_get xs k ≡ Some x → faults_at (n + k) x ≡ []
  faultless_at n [] k x h e = absurd (cc)
  faultless_at n (y ∷ xs) zero x h e =
      let none = both_none (faults_at n y) (faults_from (n + 1) xs) (sym (on n y xs) ∙ h) in
      ap (λ m. faults_at m x) (let e : n + 0 ≡ n = omega arith in e) ∙ ap (faults_at n) (let same : x ≡ y = cc in same) ∙ none.0
  faultless_at n (y ∷ xs) (suc k) x h e =
      let none = both_none (faults_at n y) (faults_from (n + 1) xs) (sym (on n y xs) ∙ h) in
      ap (λ m. faults_at m x) (let e : n + suc k ≡ n + 1 + k = omega arith in e) ∙ faultless_at (n + 1) xs k x none.1 e
