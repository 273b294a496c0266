-- Where the members of a `flat_map` stand.
use Rattle.std.proofs.Common.{◌≡◌, ◌+◌, ◌≤◌, ℕ, zero, suc, List, [], ◌∷◌, ◌++◌, length, take, flat_map, slice_get, Some, None, refl, arith, rules}
use Rattle.std.proofs.lemmas.List.{take_all}
use Rattle.std.proofs.lemmas.Option.{slice_get_past}
use Rattle.std.proofs.lemmas.Grind.{common_steps}

-- what stands in the first list stands there in both
pub here : {A : Type 0} (a b : List A) (n : ℕ) (x : A) → slice_get a n ≡ Some x → slice_get (a ++ b) n ≡ Some x
here [] b n x e = search (rules, e)
here (y ∷ a) b zero x e = e
here (y ∷ a) b (suc n) x e = here a b n x e

-- what stands behind the first list
pub behind : {A : Type 0} (a b : List A) (n m : ℕ) → m ≡ length a + n → slice_get (a ++ b) m ≡ slice_get b n
behind [] b n m e = let same : m ≡ n = omega (arith, e) in rw same refl
behind (y ∷ a) b n m e =
    let next : m ≡ suc (length a + n) = omega (arith, e) in
    rw next (behind a b n (length a + n) refl)

-- a member of the piece at i
pub in_piece : {A B : Type 0} (f : A → List B) (xs : List A) (i rest : ℕ) (x : A) (v : B) → slice_get xs i ≡ Some x → slice_get (f x) rest ≡ Some v
    → (n : ℕ) → n ≡ length (flat_map f (take i xs)) + rest → slice_get (flat_map f xs) n ≡ Some v
in_piece f [] i rest x v e at n is = search (rules, e)
in_piece f (y ∷ xs) zero rest x v e at n is =
    let same : n ≡ rest = omega (arith, is) in
    grind (rules, same, here (f y) (flat_map f xs) rest v, e, at)
in_piece f (y ∷ xs) (suc i) rest x v e at n is =
    let own = in_piece f xs i rest x v e at (length (flat_map f (take i xs)) + rest) refl in
    let skip = behind (f y) (flat_map f xs) (length (flat_map f (take i xs)) + rest) n in
    grind (arith, common_steps, own, skip, is)

-- how many members the pieces up to i have
pub piece_more : {A B : Type 0} (f : A → List B) (xs : List A) (i j : ℕ) (x : A) → slice_get xs i ≡ Some x → j ≡ i + 1
    → length (flat_map f (take j xs)) ≡ length (flat_map f (take i xs)) + length (f x)
piece_more f [] i j x e is = search (rules, e)
piece_more f (y ∷ xs) zero j x e is = grind (arith, common_steps, e, is)
piece_more f (y ∷ xs) (suc i) j x e is =
    let own = piece_more f xs i (i + 1) x e refl in
    let next : j ≡ suc (i + 1) = omega (arith, is) in
    rw next (grind (arith, common_steps, own))

-- all pieces gone over
pub past_all : {A B : Type 0} (f : A → List B) (xs : List A) (i rest n : ℕ) → length xs ≤ i → n ≡ length (flat_map f (take i xs)) + rest
    → slice_get (flat_map f xs) n ≡ None
past_all f xs i rest n le is =
    let all = take_all i xs le in
    let past = slice_get_past (flat_map f xs) n in
    grind (arith, all, past, is)
