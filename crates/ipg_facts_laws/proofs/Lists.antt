-- What holds of each member of a list.
use Rattle.std.proofs.Common.{List, [], ◌∷◌, ◌++◌, map}
use Rattle.std.specs.List.{AllByRecursion}

module _ {A : Type 0} (P : A → Type 0) where
  pub all_front : (xs ys : List A) → AllByRecursion P (xs ++ ys) → AllByRecursion P xs
  all_front [] ys h = tt
  all_front (x ∷ xs) ys h = (h.0, all_front xs ys h.1)

  pub all_back : (xs ys : List A) → AllByRecursion P (xs ++ ys) → AllByRecursion P ys
  all_back [] ys h = h
  all_back (x ∷ xs) ys h = all_back xs ys h.1

  pub all_join : (xs ys : List A) → AllByRecursion P xs → AllByRecursion P ys → AllByRecursion P (xs ++ ys)
  all_join [] ys h k = k
  all_join (x ∷ xs) ys h k = (h.0, all_join xs ys h.1 k)

  pub all_map : {B : Type 0} (f : B → A) (xs : List B) → AllByRecursion (λ x. P (f x)) xs → AllByRecursion P (map f xs)
  all_map f [] h = tt
  all_map f (x ∷ xs) h = (h.0, all_map f xs h.1)

pub all_weaker : {A : Type 0} (P Q : A → Type 0) → ((x : A) → P x → Q x) → (xs : List A) → AllByRecursion P xs → AllByRecursion Q xs
all_weaker P Q f [] h = tt
all_weaker P Q f (x ∷ xs) h = (f x h.0, all_weaker P Q f xs h.1)
