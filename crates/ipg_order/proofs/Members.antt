-- What stands in lists that are made of others.
use Rattle.std.proofs.Common.{◌≡◌, ℕ, zero, suc, ◌+◌, refl, sym, ap, ◌∙◌, subst, arith, List, [], ◌∷◌, Some, map, ◌⊎◌, inl, inr}
use Rattle.std.specs.Prelude.{slice_get, unwrap_or, flat_map, Contains}
use Rattle.std.proofs.lemmas.Option.{slice_get_within, unwrap_or-slice_get}
use Rattle.std.proofs.lemmas.List.Elements.{Contains-append_left, Contains-append_right, Contains-append_cases}
use Rattle.ipg_order.specs.Locals.{numbered}
use Rattle.ipg_order.proofs.Handing.{only_one}

pub by : {A B C : Type 0} → A ⊎ B → (A → C) → (B → C) → C
by (inl a) f g = f a
by (inr b) f g = g b

pub not_in : {X : Type 0} (y : X) → Contains [] y → ⊥
not_in y m = let lt = m.1 in omega arith

pub cons_cases : {X : Type 0} (x : X) (xs : List X) (y : X) → Contains (x ∷ xs) y → (y ≡ x) ⊎ Contains xs y
cons_cases x xs y m = by (Contains-append_cases (x ∷ []) xs y m) (λ k. inl (only_one x y k)) (λ k. inr k)

pub here : {X : Type 0} (x : X) (xs : List X) → Contains (x ∷ xs) x
here x xs = (zero, omega arith, refl)

pub later : {X : Type 0} (x : X) (xs : List X) (y : X) → Contains xs y → Contains (x ∷ xs) y
later x xs y m = Contains-append_right (x ∷ []) xs y m

pub got : {X : Type 0} (xs : List X) (k : ℕ) (x : X) → slice_get xs k ≡ Some x → Contains xs x
got xs k x e = (k, slice_get_within xs k x e, sym (unwrap_or-slice_get xs k x) ∙ ap (λ o. unwrap_or o x) e)

-- y stands in what f makes of an item
pub record Among {X Y : Type 0} (f : X → List Y) (xs : List X) (y : Y) : Type 0 where
  pub item : X
  pub member : Contains xs item
  pub holds : Contains (f item) y

among_more : {X Y : Type 0} (f : X → List Y) (x : X) (xs : List X) (y : Y) → Among f xs y → Among f (x ∷ xs) y
among_more f x xs y a = record { item = a.item; member = later x xs a.item a.member; holds = a.holds }

pub in_flat : {X Y : Type 0} (f : X → List Y) (xs : List X) (y : Y) → Contains (flat_map f xs) y → Among f xs y
in_flat f [] y m = absurd (not_in y m)
in_flat f (x ∷ xs) y m =
    by (Contains-append_cases (f x) (flat_map f xs) y m) (λ k. record { item = x; member = here x xs; holds = k }) (λ k. among_more f x xs y (in_flat f xs y k))

pub to_flat : {X Y : Type 0} (f : X → List Y) (xs : List X) (x : X) (y : Y) → Contains xs x → Contains (f x) y → Contains (flat_map f xs) y
to_flat f [] x y m k = absurd (not_in x m)
to_flat f (z ∷ xs) x y m k =
    by (cons_cases z xs x m) (λ e. Contains-append_left (f z) (flat_map f xs) y (subst (λ w. Contains (f w) y) e k))
    (λ n. Contains-append_right (f z) (flat_map f xs) y (to_flat f xs x y n k))

-- y stands in what f makes of an item and its number
pub record Numbered {X Y : Type 0} (n : ℕ) (f : ℕ → X → List Y) (xs : List X) (y : Y) : Type 0 where
  pub number : ℕ
  pub item : X
  pub is_item : slice_get xs number ≡ Some item
  pub holds : Contains (f (n + number) item) y

numbered_more : {X Y : Type 0} (n : ℕ) (f : ℕ → X → List Y) (x : X) (xs : List X) (y : Y) → Numbered (n + 1) f xs y → Numbered n f (x ∷ xs) y
numbered_more n f x xs y a = record {
  number = suc a.number;
  item = a.item;
  is_item = a.is_item;
  holds = subst (λ k. Contains (f k a.item) y) (let e : (n + 1) + a.number ≡ n + suc a.number = omega arith in e) a.holds;
}

pub in_numbered : {X Y : Type 0} (n : ℕ) (f : ℕ → X → List Y) (xs : List X) (y : Y) → Contains (numbered n f xs) y → Numbered n f xs y
in_numbered n f [] y m = absurd (not_in y m)
in_numbered n f (x ∷ xs) y m =
    by (Contains-append_cases (f n x) (numbered (n + 1) f xs) y m)
    (λ k. record { number = zero; item = x; is_item = refl; holds = subst (λ j. Contains (f j x) y) (let e : n ≡ n + 0 = omega arith in e) k })
    (λ k. numbered_more n f x xs y (in_numbered (n + 1) f xs y k))

same_item : {X : Type 0} (x z : X) (xs : List X) → slice_get (z ∷ xs) zero ≡ Some x → z ≡ x
same_item x z xs e = cc

pub to_numbered : {X Y : Type 0} (n : ℕ) (f : ℕ → X → List Y) (xs : List X) (k : ℕ) (x : X) (y : Y) → slice_get xs k ≡ Some x
    → Contains (f (n + k) x) y → Contains (numbered n f xs) y
to_numbered n f [] k x y e m = absurd (cc)
to_numbered n f (z ∷ xs) zero x y e m =
    Contains-append_left (f n z) (numbered (n + 1) f xs) y
    (subst (λ w. Contains (f n w) y) (sym (same_item x z xs e)) (subst (λ j. Contains (f j x) y) (let e : n + 0 ≡ n = omega arith in e) m))
to_numbered n f (z ∷ xs) (suc k) x y e m =
    Contains-append_right (f n z) (numbered (n + 1) f xs) y
    (to_numbered (n + 1) f xs k x y e (subst (λ j. Contains (f j x) y) (let e : n + suc k ≡ (n + 1) + k = omega arith in e) m))

pub record Image {X Y : Type 0} (f : X → Y) (xs : List X) (y : Y) : Type 0 where
  pub item : X
  pub member : Contains xs item
  pub is : y ≡ f item

image_more : {X Y : Type 0} (f : X → Y) (x : X) (xs : List X) (y : Y) → Image f xs y → Image f (x ∷ xs) y
image_more f x xs y a = record { item = a.item; member = later x xs a.item a.member; is = a.is }

pub in_map : {X Y : Type 0} (f : X → Y) (xs : List X) (y : Y) → Contains (map f xs) y → Image f xs y
in_map f [] y m = absurd (not_in y m)
in_map f (x ∷ xs) y m = by (cons_cases (f x) (map f xs) y m) (λ e. record { item = x; member = here x xs; is = e }) (λ k. image_more f x xs y (in_map f xs y k))

pub to_map : {X Y : Type 0} (f : X → Y) (xs : List X) (x : X) → Contains xs x → Contains (map f xs) (f x)
to_map f [] x m = absurd (not_in x m)
to_map f (z ∷ xs) x m =
    by (cons_cases z xs x m) (λ e. subst (λ w. Contains (f z ∷ map f xs) (f w)) (sym e) (here (f z) (map f xs)))
    (λ k. later (f z) (map f xs) (f x) (to_map f xs x k))

-- what stands in a list has a place there
pub record Placed {X : Type 0} (xs : List X) (x : X) : Type 0 where
  pub place : ℕ
  pub is : slice_get xs place ≡ Some x

pub place_of : {X : Type 0} (xs : List X) (x : X) → Contains xs x → Placed xs x
place_of [] x m = absurd (not_in x m)
place_of (z ∷ xs) x m =
    by (cons_cases z xs x m) (λ e. record { place = zero; is = ap Some (sym e) })
    (λ k. let p = place_of xs x k in record { place = suc p.place; is = p.is })
