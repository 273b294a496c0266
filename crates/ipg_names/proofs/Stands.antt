-- What stands in lists that are put together.
use Rattle.std.proofs.Common.{◌≡◌, Bool, true, false, ◌⊎◌, inl, inr, List, [], ◌∷◌, ◌++◌, flat_map, refl, sym, subst, true≢false}
use Rattle.ipg_names.specs.declared.fault.NameFault.{NameFault}
use Rattle.ipg_names.specs.Faults.{when, unless}
use Rattle.ipg_names.specs.Told.{Stands}

pub left : {A : Type 0} (xs ys : List A) (x : A) → Stands xs x → Stands (xs ++ ys) x
left [] ys x h = absurd h
left (z ∷ xs) ys x (inl e) = inl e
left (z ∷ xs) ys x (inr h) = inr (left xs ys x h)

pub right : {A : Type 0} (xs ys : List A) (x : A) → Stands ys x → Stands (xs ++ ys) x
right [] ys x h = h
right (z ∷ xs) ys x h = inr (right xs ys x h)

pub either : {A : Type 0} (xs ys : List A) (x : A) → Stands (xs ++ ys) x → Stands xs x ⊎ Stands ys x
either [] ys x h = inr h
either (z ∷ xs) ys x (inl e) = inl (inl e)
either (z ∷ xs) ys x (inr h) = more (either xs ys x h)
  where
    more : Stands xs x ⊎ Stands ys x → Stands (z ∷ xs) x ⊎ Stands ys x
    more (inl k) = inl (inr k)
    more (inr k) = inr k

pub of_either : {A : Type 0} (xs ys : List A) (x : A) → Stands xs x ⊎ Stands ys x → Stands (xs ++ ys) x
of_either xs ys x (inl h) = left xs ys x h
of_either xs ys x (inr h) = right xs ys x h

-- what one of the items gives
abbrev pub Via : {A B : Type 0} → (A → List B) → List A → B → Type 0
Via {A} f xs y = (x : A) × Stands xs x × Stands (f x) y

pub via : {A B : Type 0} (f : A → List B) (xs : List A) (y : B) → Stands (flat_map f xs) y → Via f xs y
via f [] y h = absurd h
via f (x ∷ xs) y h = by (either (f x) (flat_map f xs) y h) (via f xs y)
  where
    by : Stands (f x) y ⊎ Stands (flat_map f xs) y → (Stands (flat_map f xs) y → Via f xs y) → Via f (x ∷ xs) y
    by (inl k) rest = (x, inl refl, k)
    by (inr k) rest = let w = rest k in (w.0, inr w.1, w.2)

pub of_via : {A B : Type 0} (f : A → List B) (xs : List A) (x : A) (y : B) → Stands xs x → Stands (f x) y → Stands (flat_map f xs) y
of_via f [] x y h k = absurd h
of_via f (z ∷ xs) x y (inl e) k = left (f z) (flat_map f xs) y (subst (λ w. Stands (f w) y) (sym e) k)
of_via f (z ∷ xs) x y (inr h) k = right (f z) (flat_map f xs) y (of_via f xs x y h k)

pub only : {A : Type 0} (x y : A) → Stands (x ∷ []) y → y ≡ x
only x y (inl e) = sym e
only x y (inr h) = absurd h

pub when_is : (b : Bool) (fault f : NameFault) → Stands (when b fault) f → (b ≡ true) × (f ≡ fault)
when_is true fault f h = (refl, only fault f h)
when_is false fault f h = absurd h

pub is_when : (b : Bool) (fault f : NameFault) → b ≡ true → f ≡ fault → Stands (when b fault) f
is_when true fault f h e = inl (sym e)
is_when false fault f h e = absurd (true≢false (sym h))

pub unless_is : (b : Bool) (fault f : NameFault) → Stands (unless b fault) f → (b ≡ false) × (f ≡ fault)
unless_is true fault f h = absurd h
unless_is false fault f h = (refl, only fault f h)

pub is_unless : (b : Bool) (fault f : NameFault) → b ≡ false → f ≡ fault → Stands (unless b fault) f
is_unless true fault f h e = absurd (true≢false h)
is_unless false fault f h e = inl (sym e)
