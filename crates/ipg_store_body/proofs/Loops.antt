-- A count, and as many values as it tells, read one after the other.
use Rattle.std.proofs.Common.{◌≡◌, ℕ, suc, List, [], ◌∷◌, ◌++◌, Result, Ok, Err, refl, sym, ap, subst, ◌∙◌, append_assoc, append-nil}
use Rattle.std.proofs.lemmas.Result.{err_from_is_err_and}
use Rattle.std.specs.Prelude.{IsErrAnd}
use Rattle.std.specs.Int.{w64}
use Rattle.ipg_reader.specs.declared.fault.Halt.{Halt}
use Rattle.ipg_reader.specs.declared.fault.Halt.TheVariants.{Here, Memory}
use Rattle.ipg_reader.specs.Found.{Found, ◌>>=◌, Gives, items_at, list_at, number_at}

-- what was read before, and what is still read
abbrev pub with_front : {A : Type 0} → List A → Found (List A) → Found (List A)
with_front front o = o >>= λ x. Ok (front ++ x.0, x.1)

-- the values read, and as many more as are due, are all of them
abbrev pub Goes : {A : Type 0} → (List ℕ → Found A) → List ℕ → List A → ℕ → List ℕ → Type 0
Goes read first front due left = with_front front (items_at read due left) ≡ list_at read first

bare : {A : Type 0} (o : Found (List A)) → with_front [] o ≡ o
bare (Ok x) = refl
bare (Err left) = refl

regroup : {A : Type 0} (front : List A) (a : A) (o : Found (List A)) → with_front front (o >>= λ x. Ok (a ∷ x.0, x.1)) ≡ with_front (front ++ a ∷ []) o
regroup front a (Ok x) = ap (λ xs. Ok (xs, x.1)) (sym (append_assoc front (a ∷ []) x.0))
regroup front a (Err left) = refl

module _ {A : Type 0} (read : List ℕ → Found A) (first : List ℕ) where
  pub starts : (count : ℕ) (left : List ℕ) (front : List A) (due : ℕ) → front ≡ [] → due ≡ count → number_at w64 first ≡ Ok (count, left)
      → Goes read first front due left
  unfolding list_at
  starts count left front due none all is =
      ap (λ xs. with_front xs (items_at read due left)) none ∙ bare (items_at read due left) ∙ ap (λ n. items_at read n left) all
      ∙ sym (ap (λ o. o >>= λ n. items_at read n.0 n.1) is)

  pub more : (front : List A) (due next : ℕ) (left after : List ℕ) (a : A) → due ≡ suc next → read left ≡ Ok (a, after) → Goes read first front due left
      → Goes read first (front ++ a ∷ []) next after
  more front due next left after a size is so_far =
      sym (ap (λ n. with_front front (items_at read n left)) size
      ∙ ap (λ o. with_front front (o >>= λ x. items_at read next x.1 >>= λ xs. Ok (x.0 ∷ xs.0, xs.1))) is
      ∙ regroup front a (items_at read next after)) ∙ so_far

  stuck : (front : List A) (due next : ℕ) (left after : List ℕ) (why : Halt) → due ≡ suc next → Gives (read left) after (Err why)
      → Goes read first front due left → Gives (list_at read first) after (Err why)
  stuck front due next left after Memory size given so_far = tt
  stuck front due next left after Here size given so_far =
      sym so_far ∙ ap (λ n. with_front front (items_at read n left)) size
      ∙ ap (λ o. with_front front (o >>= λ x. items_at read next x.1 >>= λ xs. Ok (x.0 ∷ xs.0, xs.1))) given

  pub halts : (front : List A) (due next : ℕ) (left after : List ℕ) (why : Halt) (r : Result (List A) Halt) → due ≡ suc next → IsErrAnd r (λ e. e ≡ why)
      → Gives (read left) after (Err why) → Goes read first front due left → Gives (list_at read first) after r
  halts front due next left after why r size is given so_far =
      let p = err_from_is_err_and r is in
      subst (Gives (list_at read first) after) (sym (p.1 ∙ ap Err p.2)) (stuck front due next left after why size given so_far)

  pub ends : (front all : List A) (due : ℕ) (left : List ℕ) → due ≡ 0 → all ≡ front → Goes read first front due left → list_at read first ≡ Ok (all, left)
  ends front all due left none is so_far =
      sym so_far ∙ ap (λ n. with_front front (items_at read n left)) none ∙ ap (λ xs. Ok (xs, left)) (append-nil front ∙ sym is)
