-- Numbers none of which occurs twice.
use Rattle.std.proofs.Common.{◌≡◌, ◌≢◌, ℕ, ◌<◌, ◌≤◌, List, [], ◌∷◌, ◌++◌, length, true, false, sym, ap, ◌∙◌, subst, inl, inr, eqb, ◌||◌}
use Rattle.std.specs.List.{AllByRecursion, IsDistinct, list_any}
use Rattle.std.proofs.lemmas.Bool.{ne_eqb, true≢false}
use Rattle.std.proofs.lemmas.Bool.Decides.{eqb_tells}
use Rattle.std.proofs.lemmas.List.Elements.{All-from_recursion}
use Rattle.std.proofs.lemmas.Map.Steps.{length-le_from_distinct_below}
use Rattle.ipg_graph.specs.Cycle.{AreApart}
use Rattle.ipg_facts_laws.proofs.Lists.{all_front, all_back, all_join, all_weaker}

abbrev pub Apart : List ℕ → Type 0
Apart [] = Unit {0}
Apart (x ∷ xs) = AllByRecursion (λ y. x ≢ y) xs × Apart xs

pub are_apart : (xs : List ℕ) → Apart xs → AreApart xs
are_apart [] h = tt
are_apart (x ∷ xs) h = (All-from_recursion (λ y. x ≢ y) xs h.0, are_apart xs h.1)

-- none of the ones is one of the others
abbrev AreOther : List ℕ → List ℕ → Type 0
AreOther xs ys = AllByRecursion (λ x. AllByRecursion (λ y. x ≢ y) ys) xs

none_other : (xs : List ℕ) → AreOther xs []
none_other [] = tt
none_other (x ∷ xs) = (tt, none_other xs)

one_more : (xs : List ℕ) (y : ℕ) (ys : List ℕ) → AllByRecursion (λ x. y ≢ x) xs → AreOther xs ys → AreOther xs (y ∷ ys)
one_more [] y ys h k = tt
one_more (x ∷ xs) y ys h k = (((λ e. h.0 (sym e)), k.0), one_more xs y ys h.1 k.1)

other_swap : (xs ys : List ℕ) → AreOther xs ys → AreOther ys xs
other_swap [] ys h = none_other ys
other_swap (x ∷ xs) ys h = one_more ys x xs h.0 (other_swap xs ys h.1)

apart_others : (xs ys : List ℕ) → Apart (xs ++ ys) → AreOther xs ys
apart_others [] ys h = tt
apart_others (x ∷ xs) ys h = (all_back (λ y. x ≢ y) xs ys h.0, apart_others xs ys h.1)

pub apart_front : (xs ys : List ℕ) → Apart (xs ++ ys) → Apart xs
apart_front [] ys h = tt
apart_front (x ∷ xs) ys h = (all_front (λ y. x ≢ y) xs ys h.0, apart_front xs ys h.1)

apart_back : (xs ys : List ℕ) → Apart (xs ++ ys) → Apart ys
apart_back [] ys h = h
apart_back (x ∷ xs) ys h = apart_back xs ys h.1

apart_join : (xs ys : List ℕ) → Apart xs → Apart ys → AreOther xs ys → Apart (xs ++ ys)
apart_join [] ys h k o = k
apart_join (x ∷ xs) ys h k o = (all_join (λ y. x ≢ y) xs ys h.0 o.0, apart_join xs ys h.1 k o.1)

-- the order does not matter
pub apart_swap : (xs ys : List ℕ) → Apart (xs ++ ys) → Apart (ys ++ xs)
apart_swap xs ys h = apart_join ys xs (apart_back xs ys h) (apart_front xs ys h) (other_swap xs ys (apart_others xs ys h))

distinct : (xs : List ℕ) → Apart xs → IsDistinct eqb xs
unfolding IsDistinct
distinct [] h = tt
distinct (x ∷ xs) h = (all_weaker (λ y. x ≢ y) (λ y. eqb x y ≡ false) (λ y ne. ne_eqb x y ne) xs h.0, distinct xs h.1)

below : (n q : ℕ) (xs : List ℕ) → AllByRecursion (λ x. x < n) xs → list_any (eqb q) xs ≡ true → q < n
below n q [] h e = absurd (true≢false (sym e))
below n q (x ∷ xs) h e = elim (eqb_tells q x) [
  | inl same ↦ subst (λ y. y < n) (sym same.1) h.0
  | inr other ↦ below n q xs h.1 (sym (ap (λ b. b || list_any (eqb q) xs) other.0) ∙ e)
]

-- there are no more than numbers below their bound
pub few : (n : ℕ) (xs : List ℕ) → Apart xs → AllByRecursion (λ x. x < n) xs → length xs ≤ n
few n xs apart all = length-le_from_distinct_below xs n (distinct xs apart) (λ q e. below n q xs all e)
