-- Texts that are put together of texts of a list's items, in turn: one item more; and that they are one, and can't be missing, where each
-- item's is so.
use Rattle.std.proofs.Common.{◌≡◌, ◌+◌, ◌++◌, ℕ, zero, suc, List, [], ◌∷◌, take, slice_get, Some, None, refl, sym, ap, ◌∙◌, subst, arith}
use Rattle.std.proofs.lemmas.List.{append_assoc, append-nil}
use Rattle.ipg_app_values.specs.Turn.{InTurn}

module _ {A : Type 0} (Of : ℕ → A → List ℕ → Type 0) where
  -- the n first items, and the one behind them
  pub more : (n i : ℕ) (xs : List A) (x : A) (text own : List ℕ) → slice_get xs i ≡ Some x → InTurn Of n (take i xs) text → Of (n + i) x own
      → InTurn Of n (take (suc i) xs) (text ++ own)
  more n i [] x text own there before of = absurd (let e : None ≡ Some x = there in cc)
  more n zero (y ∷ xs) x text own there none of =
      let same : y ≡ x = let e : Some y ≡ Some x = there in cc in
      (own, [], subst (λ k. Of k y own) (omega arith) (subst (λ z. Of (n + 0) z own) (sym same) of), refl, ap (λ t. t ++ own) none ∙ sym (append-nil own))
  more n (suc i) (y ∷ xs) x text own there (first, rest, one, others, e) of = (
    first,
    rest ++ own,
    one,
    more (suc n) i xs x rest own there others (subst (λ k. Of k x own) (omega arith) of),
    ap (λ t. t ++ own) e ∙ append_assoc first rest own,
  )

  -- where the first has the number 0
  pub next : (i : ℕ) (xs : List A) (x : A) (text own new : List ℕ) → slice_get xs i ≡ Some x → InTurn Of 0 (take i xs) text → Of i x own → new ≡ text ++ own
      → InTurn Of 0 (take (i + 1) xs) new
  next i xs x text own new there before of is =
      let number : i ≡ 0 + i = omega arith in
      let count : suc i ≡ i + 1 = omega arith in
      let longer = more 0 i xs x text own there before (subst (λ k. Of k x own) number of) in
      subst (λ k. InTurn Of 0 (take k xs) new) count (subst (InTurn Of 0 (take (suc i) xs)) (sym is) longer)

  -- each item has one text
  pub once : ((n : ℕ) (x : A) (one other : List ℕ) → Of n x one → Of n x other → one ≡ other) → (n : ℕ) (xs : List A) (one other : List ℕ)
      → InTurn Of n xs one → InTurn Of n xs other → one ≡ other
  once same n [] one other e f = e ∙ sym f
  once same n (x ∷ xs) one other (a, b, is, those, e) (c, d, too, these, f) =
      let first = same n x a c is too in
      let others = once same (suc n) xs b d those these in
      e ∙ ap (λ s. s ++ b) first ∙ ap (λ t. c ++ t) others ∙ sym f

  -- each item's text can't be missing
  pub somehow : ((n : ℕ) (x : A) → ((own : List ℕ) → Of n x own → ⊥) → ⊥) → (n : ℕ) (xs : List A) → ((text : List ℕ) → InTurn Of n xs text → ⊥) → ⊥
  somehow some n [] none = none [] refl
  somehow some n (x ∷ xs) none = some n x (λ own is. somehow some (suc n) xs (λ rest those. none (own ++ rest) (own, rest, is, those, refl)))
