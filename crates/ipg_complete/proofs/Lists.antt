-- Lists that are made of others, item by item.
use Rattle.std.proofs.Common.{◌≡◌, ℕ, zero, suc, ◌+◌, ◌<◌, refl, sym, ap, ◌∙◌, arith, List, [], ◌∷◌, ◌++◌, Some, map, length, drop, get_or}
use Rattle.std.specs.Prelude.{slice_get, sum_by}
use Rattle.std.specs.List.{AllByRecursion}
use Rattle.std.proofs.lemmas.List.Sums.{sum_by-cons}
use Rattle.std.proofs.Math.Seq.{drop-cons}
use Rattle.ipg_core.specs.declared.grammar.CoreExpr.{CoreExpr}
use Rattle.ipg_core.specs.declared.grammar.CoreExpr.TheVariants.{After}
use Rattle.ipg_complete.specs.Lefts.{behind_items}

-- an item of a mapped list is that of an item
pub record Written {X Y : Type 0} (f : X → Y) (xs : List X) (k : ℕ) (y : Y) : Type 0 where
  pub item : X
  pub is_item : slice_get xs k ≡ Some item
  pub is : y ≡ f item

pub written : {X Y : Type 0} (f : X → Y) (xs : List X) (k : ℕ) (y : Y) → slice_get (map f xs) k ≡ Some y → Written f xs k y
written f [] k y e = absurd (cc)
written f (x ∷ xs) zero y e = record { item = x; is_item = refl; is = cc }
written f (x ∷ xs) (suc k) y e = let w = written f xs k y e in record { item = w.item; is_item = w.is_item; is = w.is }

pub all_more : {X : Type 0} (P Q : X → Type 0) (xs : List X) → ((x : X) → P x → Q x) → AllByRecursion P xs → AllByRecursion Q xs
all_more P Q [] f h = tt
all_more P Q (x ∷ xs) f h = (f x h.0, all_more P Q xs f h.1)

pub all_append : {X : Type 0} (P : X → Type 0) (xs ys : List X) → AllByRecursion P xs → AllByRecursion P ys → AllByRecursion P (xs ++ ys)
all_append P [] ys h k = k
all_append P (x ∷ xs) ys h k = (h.0, all_append P xs ys h.1 k)

pub all_left : {X : Type 0} (P : X → Type 0) (xs ys : List X) → AllByRecursion P (xs ++ ys) → AllByRecursion P xs
all_left P [] ys h = tt
all_left P (x ∷ xs) ys h = (h.0, all_left P xs ys h.1)

pub all_right : {X : Type 0} (P : X → Type 0) (xs ys : List X) → AllByRecursion P (xs ++ ys) → AllByRecursion P ys
all_right P [] ys h = h
all_right P (x ∷ xs) ys h = all_right P xs ys h.1

-- what holds of each item by its place
pub all_of : {X : Type 0} (P : X → Type 0) (xs : List X) → ((k : ℕ) (x : X) → slice_get xs k ≡ Some x → P x) → AllByRecursion P xs
all_of P [] f = tt
all_of P (x ∷ xs) f = (f 0 x refl, all_of P xs (λ k. f (suc k)))

pub sum_of_map : {X Y : Type 0} (f : Y → ℕ) (h : X → Y) (k : X → ℕ) → ((x : X) → f (h x) ≡ k x) → (xs : List X) → sum_by f (map h xs) ≡ sum_by k xs
sum_of_map f h k same [] = refl
sum_of_map f h k same (x ∷ xs) =
    let a = sum_by-cons f (h x) (map h xs) in
    let b = sum_by-cons k x xs in
    let c = sum_of_map f h k same xs in
    let d = same x in
    a ∙ omega (arith, c, d) ∙ sym b

-- the item at an index and the items after it
pub at_item : {A : Type 0} (xs : List A) (i : ℕ) (other : A) → i < length xs → drop i xs ≡ get_or xs i other ∷ drop (i + 1) xs
at_item xs i other within = drop-cons xs i other within ∙ ap (λ j. get_or xs i other ∷ drop j xs) (let next : suc i ≡ i + 1 = omega arith in next)

-- behind one more array or repetition
pub behind_one_more : (left : CoreExpr) (us : List ℕ) (u : ℕ) → behind_items left (us ++ u ∷ []) ≡ After u (behind_items left us)
behind_one_more left [] u = refl
behind_one_more left (v ∷ us) u = behind_one_more (After v left) us u
