-- Lists item by item.
use Rattle.std.proofs.Common.{◌≡◌, ℕ, zero, suc, ◌+◌, ◌<◌, ◌≤◌, List, [], ◌∷◌, ◌++◌, length, take, drop, get_or, map, refl, sym}
use Rattle.std.proofs.Common.{ap, subst, ◌∙◌, append_assoc, append-nil, arith, length-take, slice_get, Some}
use Rattle.std.specs.List.{AllByRecursion}
use Rattle.std.proofs.lemmas.List.{drop_all}
use Rattle.std.proofs.Math.Seq.{drop-cons, take-suc}

-- the item at an index and the items after it
pub at_item : {A : Type 0} (xs : List A) (i : ℕ) (x : A) → x ≡ get_or xs i x → i < length xs → drop i xs ≡ x ∷ drop (i + 1) xs
at_item xs i x is within =
    let next : suc i ≡ i + 1 = omega arith in
    drop-cons xs i x within ∙ ap (λ y. y ∷ drop (suc i) xs) (sym is) ∙ ap (λ j. x ∷ drop j xs) next

-- one item more
pub take_item : {A : Type 0} (xs : List A) (i : ℕ) (x : A) → x ≡ get_or xs i x → i < length xs → take (i + 1) xs ≡ take i xs ++ x ∷ []
take_item xs i x is within =
    let next : i + 1 ≡ suc i = omega arith in
    ap (λ j. take j xs) next ∙ take-suc xs i x within ∙ ap (λ y. take i xs ++ y ∷ []) (sym is)

pub taken : {A : Type 0} (xs : List A) (i : ℕ) → i < length xs → length (take i xs) ≡ i
taken xs i within = omega (arith, length-take i xs)

-- what holds of each item holds of the one at an index
pub all_at : {A : Type 0} (P : A → Type 0) (xs : List A) (i : ℕ) (x : A) → AllByRecursion P xs → x ≡ get_or xs i x → i < length xs → P x
all_at P [] i x h is within = absurd (omega arith)
all_at P (y ∷ xs) zero x h is within = subst P (sym is) h.0
all_at P (y ∷ xs) (suc i) x h is within = all_at P xs i x h.1 is (omega arith)

pub all_map_at : {A B : Type 0} (P : B → Type 0) (f : A → B) (xs : List A) (i : ℕ) (x : A) → AllByRecursion P (map f xs) → x ≡ get_or xs i x
    → i < length xs → P (f x)
all_map_at P f [] i x h is within = absurd (omega arith)
all_map_at P f (y ∷ xs) zero x h is within = subst (λ z. P (f z)) (sym is) h.0
all_map_at P f (y ∷ xs) (suc i) x h is within = all_map_at P f xs i x h.1 is (omega arith)

pub map_push : {A B : Type 0} (f : A → B) (xs : List A) (x : A) → map f (xs ++ x ∷ []) ≡ map f xs ++ f x ∷ []
map_push f [] x = refl
map_push f (y ∷ xs) x = ap (λ ys. f y ∷ ys) (map_push f xs x)

-- pieces put after one another: what stands and what is left give the whole
pub pieces : {A : Type 0} (old piece new rest whole all : List A) → new ≡ old ++ piece → whole ≡ piece ++ rest → old ++ whole ≡ all → new ++ rest ≡ all
pieces old piece new rest whole all put splits so_far =
    ap (λ n. n ++ rest) put ∙ append_assoc old piece rest ∙ ap (λ t. old ++ t) (sym splits) ∙ so_far

-- one item more of a mapped list, and all of them
pub map_turn : {A B : Type 0} (f : A → B) (xs : List A) (i : ℕ) (x : A) (made new all : List B) → x ≡ get_or xs i x → i < length xs → new ≡ made ++ f x ∷ []
    → made ++ map f (drop i xs) ≡ all → new ++ map f (drop (i + 1) xs) ≡ all
map_turn f xs i x made new all is within put so_far =
    pieces made (f x ∷ []) new (map f (drop (i + 1) xs)) (map f (x ∷ drop (i + 1) xs)) all put refl (ap (λ ys. made ++ map f ys) (sym
    (at_item xs i x is within)) ∙ so_far)

pub map_done : {A B : Type 0} (f : A → B) (xs : List A) (i : ℕ) (made all : List B) → length xs ≤ i → made ++ map f (drop i xs) ≡ all → made ≡ all
map_done f xs i made all past so_far = sym (append-nil made) ∙ sym (ap (λ t. made ++ map f t) (drop_all i xs past)) ∙ so_far

drop_here : {A : Type 0} (xs : List A) (i : ℕ) (x : A) → slice_get xs i ≡ Some x → drop i xs ≡ x ∷ drop (suc i) xs
drop_here [] i x h = absurd (cc)
drop_here (y ∷ xs) zero x h = ap (λ z. z ∷ xs) (let same : y ≡ x = cc in same)
drop_here (y ∷ xs) (suc i) x h = drop_here xs i x h

pub drop_get : {A : Type 0} (xs : List A) (i : ℕ) (x : A) → slice_get xs i ≡ Some x → drop i xs ≡ x ∷ drop (i + 1) xs
drop_get xs i x h = drop_here xs i x h ∙ ap (λ k. x ∷ drop k xs) (let e : suc i ≡ i + 1 = omega arith in e)
