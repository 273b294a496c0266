-- Searches of lists for the first item of which something is found.
use Rattle.std.proofs.Common.{◌≡◌, ℕ, zero, suc, ◌+◌, ◌<◌, List, [], ◌∷◌, Option, Some, None, refl, subst, slice_get, arith}
use Rattle.ipg_touch.specs.Loose.{or_later}

-- the first item of which something is found, with its number from n on
abbrev pub first : {A B : Type 0} → (A → Option B) → ℕ → List A → Option (ℕ × B)
first find n [] = None
first find n (x ∷ xs) = or_later n (find x) (first find (n + 1) xs)

-- what is found stands there, and nothing is found before it
pub record FoundAt {A B : Type 0} (find : A → Option B) (n : ℕ) (xs : List A) (at : ℕ × B) : Type 0 where
  pub place : ℕ
  pub item : A
  pub number : at.0 ≡ n + place
  pub there : slice_get xs place ≡ Some item
  pub found : find item ≡ Some at.1
  pub before : (j : ℕ) (y : A) → j < place → slice_get xs j ≡ Some y → find y ≡ None

-- nothing is found of any
abbrev pub FindsNone : {A B : Type 0} → (A → Option B) → List A → Type 0
FindsNone {A} find xs = (k : ℕ) (x : A) → slice_get xs k ≡ Some x → find x ≡ None

here : {A B : Type 0} (find : A → Option B) (n : ℕ) (x : A) (xs : List A) (b : B) → find x ≡ Some b → FoundAt find n (x ∷ xs) (n, b)
here find n x xs b e = record { place = 0; item = x; number = omega arith; there = refl; found = e; before = λ j y less is. absurd (omega arith) }

later : {A B : Type 0} (find : A → Option B) (n : ℕ) (x : A) (xs : List A) (at : ℕ × B) → find x ≡ None
    → FoundAt find (n + 1) xs at → FoundAt find n (x ∷ xs) at
later {A} find n x xs at e f = record {
  place = suc f.place;
  item = f.item;
  number = omega (arith, f.number);
  there = f.there;
  found = f.found;
  before = go;
}
  where
    go : (j : ℕ) (y : A) → j < suc f.place → slice_get (x ∷ xs) j ≡ Some y → find y ≡ None
    go zero y less is = let same : x ≡ y = cc in subst (λ z. find z ≡ None) same e
    go (suc j) y less is = f.before j y (omega (arith, less)) is

finds_by : {A B : Type 0} (find : A → Option B) (n : ℕ) (x : A) (xs : List A) (at : ℕ × B) → (first find (n + 1) xs ≡ Some at → FoundAt find (n + 1) xs at)
    → (o : Option B) → find x ≡ o → or_later n o (first find (n + 1) xs) ≡ Some at → FoundAt find n (x ∷ xs) at
finds_by find n x xs at behind (Some b) is e = let same : (n, b) ≡ at = cc in subst (λ p. FoundAt find n (x ∷ xs) p) same (here find n x xs b is)
finds_by find n x xs at behind None is e = later find n x xs at is (behind e)

pub finds : {A B : Type 0} (find : A → Option B) (n : ℕ) (xs : List A) (at : ℕ × B) → first find n xs ≡ Some at → FoundAt find n xs at
finds find n [] at e = absurd (cc)
finds find n (x ∷ xs) at e = finds_by find n x xs at (λ d. finds find (n + 1) xs at d) (find x) refl e

none_by : {A B : Type 0} (find : A → Option B) (n : ℕ) (y : A) (xs : List A) → (first find (n + 1) xs ≡ None → FindsNone find xs)
    → (o : Option B) → find y ≡ o → or_later n o (first find (n + 1) xs) ≡ None → FindsNone find (y ∷ xs)
none_by find n y xs behind (Some b) found e k x is = absurd (cc)
none_by find n y xs behind None found e zero x is = let same : y ≡ x = cc in subst (λ z. find z ≡ None) same found
none_by find n y xs behind None found e (suc k) x is = behind e k x is

pub finds_none : {A B : Type 0} (find : A → Option B) (n : ℕ) (xs : List A) → first find n xs ≡ None → FindsNone find xs
finds_none find n [] e k x is = absurd (cc)
finds_none find n (y ∷ xs) e k x is = none_by find n y xs (λ d. finds_none find (n + 1) xs d) (find y) refl e k x is
