-- What is appended behind what was appended.
use Rattle.std.proofs.Common.{◌≡◌, ◌+◌, ℕ, zero, suc, List, [], ◌∷◌, ◌++◌, Some, ap, sym, ◌∙◌, arith, flat_map, rules, slice_get, take}
use Rattle.std.proofs.lemmas.Grind.{common_steps}
use Rattle.std.proofs.lemmas.List.{append_assoc}

pub behind : {A : Type 0} (a r old mid new : List A) → mid ≡ old ++ a → new ≡ mid ++ r → new ≡ old ++ (a ++ r)
behind a r old mid new first rest = rest ∙ ap (λ xs. xs ++ r) first ∙ append_assoc old a r

-- the pieces up to the next one
pub one_more : {A B : Type 0} (f : A → List B) (xs : List A) (i : ℕ) (x : A) → slice_get xs i ≡ Some x
    → flat_map f (take (i + 1) xs) ≡ flat_map f (take i xs) ++ f x
one_more f [] i x e = search (rules, e)
one_more f (y ∷ xs) zero x e = grind (arith, common_steps, e)
one_more f (y ∷ xs) (suc i) x e =
    let own = one_more f xs i x e in
    let next : suc i + 1 ≡ suc (i + 1) = omega arith in
    rw next (ap (λ l. f y ++ l) own ∙ sym (append_assoc (f y) (flat_map f (take i xs)) (f x)))
