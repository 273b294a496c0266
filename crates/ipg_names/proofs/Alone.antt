-- The first item of a list, where it is the only one; an item beside which no other passes.
use Rattle.std.proofs.Common.{◌≡◌, ℕ, zero, suc, ◌+◌, ◌-◌, ◌<◌, Bool, true, false, ◌⊎◌, inl, inr, nat_lt, List, [], ◌∷◌, take}
use Rattle.std.proofs.Common.{drop, Option, Some, None, is_some, slice_get, refl, sym, ap, ◌∙◌, cond, arith, true≢false}
use Rattle.std.proofs.lemmas.Bool.Decides.{nat_tests}
use Rattle.ipg_names_scope.specs.Nearest.{first_from, last_from, or_else, left_of, right_of, nearest}
use Rattle.ipg_names.proofs.Found.{Found, first_found, last_found, take_get, get_take, get_drop}

pub taken_below : {A : Type 0} (u : ℕ) (xs : List A) (k : ℕ) (x : A) → slice_get (take u xs) k ≡ Some x → k < u
taken_below zero xs k x h = absurd (cc)
taken_below (suc u) [] k x h = absurd (cc)
taken_below (suc u) (y ∷ xs) zero x h = omega arith
taken_below (suc u) (y ∷ xs) (suc k) x h = omega (arith, taken_below u xs k x h)

drop_item : {A : Type 0} (m : ℕ) (xs : List A) (k : ℕ) (x : A) → slice_get xs (m + k) ≡ Some x → slice_get (drop m xs) k ≡ Some x
drop_item zero xs k x h = ap (slice_get xs) (let e : k ≡ 0 + k = omega arith in e) ∙ h
drop_item (suc m) [] k x h = absurd (cc)
drop_item (suc m) (y ∷ xs) k x h = drop_item m xs k x (ap (slice_get (y ∷ xs)) (let e : suc (m + k) ≡ suc m + k = omega arith in e) ∙ h)

none_apart : (o : Option ℕ) (v : ℕ) → o ≡ None → o ≡ Some v → ⊥
none_apart o v e d = cc

module _ {A : Type 0} (p : A → Bool) where
  pub first_is : (n : ℕ) (xs : List A) (k : ℕ) (x : A) → slice_get xs k ≡ Some x → p x ≡ true
      → ((j : ℕ) (y : A) → slice_get xs j ≡ Some y → p y ≡ true → j ≡ k)
      → first_from p n xs ≡ Some (n + k)
  first_is n [] k x h e only = absurd (cc)
  first_is n (y ∷ xs) zero x h e only =
      ap (λ b. cond b (Some n) (first_from p (n + 1) xs)) (ap p (let same : y ≡ x = cc in same) ∙ e) ∙ ap Some (let z : n ≡ n + 0 = omega arith in z)
  first_is n (y ∷ xs) (suc k) x h e only =
      by (p y) refl (first_is (n + 1) xs k x h e (λ j z i t. let w : suc j ≡ suc k = only (suc j) z i t in omega (arith, w)))
    where
      by : (b : Bool) → p y ≡ b → first_from p (n + 1) xs ≡ Some (n + 1 + k) → cond b (Some n) (first_from p (n + 1) xs) ≡ Some (n + suc k)
      by true q rest = absurd (let z : 0 ≡ suc k = only 0 y refl q in omega (arith, z))
      by false q rest = rest ∙ ap Some (let z : n + 1 + k ≡ n + suc k = omega arith in z)

  first_some : (n : ℕ) (xs : List A) (k : ℕ) (x : A) → slice_get xs k ≡ Some x → p x ≡ true → is_some (first_from p n xs) ≡ true
  first_some n [] k x h e = absurd (cc)
  first_some n (y ∷ xs) zero x h e = ap (λ b. is_some (cond b (Some n) (first_from p (n + 1) xs))) (ap p (let same : y ≡ x = cc in same) ∙ e)
  first_some n (y ∷ xs) (suc k) x h e = by (p y) (first_some (n + 1) xs k x h e)
    where
      by : (b : Bool) → is_some (first_from p (n + 1) xs) ≡ true → is_some (cond b (Some n) (first_from p (n + 1) xs)) ≡ true
      by true q = refl
      by false q = q

  last_kept : (n : ℕ) (found : Option ℕ) (xs : List A) → is_some found ≡ true → is_some (last_from p n found xs) ≡ true
  last_kept n found [] h = h
  last_kept n found (x ∷ xs) h = last_kept (n + 1) (cond (p x) (Some n) found) xs (by (p x))
    where
      by : (b : Bool) → is_some (cond b (Some n) found) ≡ true
      by true = refl
      by false = h

  last_some : (n : ℕ) (found : Option ℕ) (xs : List A) (k : ℕ) (x : A) → slice_get xs k ≡ Some x → p x ≡ true → is_some (last_from p n found xs) ≡ true
  last_some n found [] k x h e = absurd (cc)
  last_some n found (y ∷ xs) zero x h e =
      last_kept (n + 1) (cond (p y) (Some n) found) xs (ap (λ b. is_some (cond b (Some n) found)) (ap p (let same : y ≡ x = cc in same) ∙ e))
  last_some n found (y ∷ xs) (suc k) x h e = last_some (n + 1) (cond (p y) (Some n) found) xs k x h e

  else_left : (a b : Option ℕ) → is_some a ≡ true → is_some (or_else a b) ≡ true
  else_left (Some n) b h = refl
  else_left None b h = absurd (true≢false (sym h))

  else_right : (a b : Option ℕ) → is_some b ≡ true → is_some (or_else a b) ≡ true
  else_right (Some n) b h = refl
  else_right None b h = h

  -- where there is no nearest one, the items that pass are the one at hand
  pub alone : (xs : List A) (u : ℕ) → is_some (nearest p xs u) ≡ false → (v : ℕ) (x : A) → slice_get xs v ≡ Some x → p x ≡ true → v ≡ u
  alone xs u none v x h e = by (nat_lt v u) (nat_lt u v) refl refl
    where
      on_left : v < u → is_some (nearest p xs u) ≡ true
      on_left lt = else_left (left_of p xs u) (right_of p xs u) (last_some 0 None (take u xs) v x (take_get p u xs v x lt h) e)

      on_right : (w : ℕ) → v ≡ u + 1 + w → is_some (nearest p xs u) ≡ true
      on_right w z = else_right (left_of p xs u) (right_of p xs u)
          (first_some (u + 1) (drop (u + 1) xs) w x (drop_item (u + 1) xs w x (ap (slice_get xs) (sym z) ∙ h)) e)

      by : (b c : Bool) → nat_lt v u ≡ b → nat_lt u v ≡ c → v ≡ u
      by true c a d = absurd (true≢false (sym (on_left (grind (arith, nat_tests))) ∙ none))
      by false true a d =
          let past : u < v = grind (arith, nat_tests) in
          absurd (true≢false (sym (on_right (v - (u + 1)) (omega (arith, past))) ∙ none))
      by false false a d = grind (arith, nat_tests)

  pub none_near : (xs : List A) (u : ℕ) → ((v : ℕ) (x : A) → slice_get xs v ≡ Some x → p x ≡ true → v ≡ u) → is_some (nearest p xs u) ≡ false
  none_near xs u only = by (left_of p xs u) (right_of p xs u) refl refl
    where
      left : (v : ℕ) → left_of p xs u ≡ Some v → ⊥
      left v e = pick (last_found p 0 None (take u xs) v e)
        where
          pick : ((let n : Option ℕ = None in n) ≡ Some v) ⊎ ((k : ℕ) × (v ≡ 0 + k) × Found p (take u xs) k) → ⊥
          pick (inl d) = none_apart None v refl d
          pick (inr w) =
              let same : w.0 ≡ u = only w.0 w.2.item (get_take p u xs w.0 w.2.item w.2.is) w.2.passes in
              omega (arith, same, taken_below u xs w.0 w.2.item w.2.is)

      right : (v : ℕ) → right_of p xs u ≡ Some v → ⊥
      right v e =
          let w = first_found p (u + 1) (drop (u + 1) xs) v e in
          let same : u + 1 + w.0 ≡ u = only (u + 1 + w.0) w.2.item (get_drop p (u + 1) xs w.0 w.2.item w.2.is) w.2.passes in
          omega (arith, same)

      by : (a b : Option ℕ) → left_of p xs u ≡ a → right_of p xs u ≡ b → is_some (or_else a b) ≡ false
      by (Some v) b e d = absurd (left v e)
      by None (Some v) e d = absurd (right v d)
      by None None e d = refl
