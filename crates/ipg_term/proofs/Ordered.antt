-- The lexicographic order is total.
use Rattle.std.proofs.Common.{◌≡◌, ℕ, ◌⊎◌, List, [], ◌∷◌, refl, sym, ap, ◌∙◌, inl, inr, arith}
use Rattle.std.proofs.lemmas.Bool.{cases_order}
use Rattle.ipg_graph.specs.Cycle.{StandsUpTo, StandsBefore}

both_first : (x y : ℕ) (c d : List ℕ) → x ≡ y → c ≡ d → x ∷ c ≡ y ∷ d
both_first x y c d e f = ap (λ v. v ∷ c) e ∙ ap (λ l. y ∷ l) f

pub is_or_before : (c d : List ℕ) → StandsUpTo c d → (c ≡ d) ⊎ StandsBefore c d
is_or_before [] [] h = inl refl
is_or_before [] (y ∷ d) h = inr tt
is_or_before (x ∷ c) [] h = absurd h
is_or_before (x ∷ c) (y ∷ d) (inl less) = inr (inl less)
is_or_before (x ∷ c) (y ∷ d) (inr h) = elim (is_or_before c d h.1) [
  | inl same ↦ inl (both_first x y c d h.0 same)
  | inr before ↦ inr (inr (h.0, before))
]

pub not_both : (c d : List ℕ) → StandsUpTo c d → StandsBefore d c → ⊥
not_both [] [] h k = k
not_both [] (y ∷ d) h k = k
not_both (x ∷ c) [] h k = h
not_both (x ∷ c) (y ∷ d) (inl h) (inl k) = omega (arith, h, k)
not_both (x ∷ c) (y ∷ d) (inl h) (inr k) = omega (arith, h, k.0)
not_both (x ∷ c) (y ∷ d) (inr h) (inl k) = omega (arith, h.0, k)
not_both (x ∷ c) (y ∷ d) (inr h) (inr k) = not_both c d h.1 k.1

pub is_total : (c d : List ℕ) → (c ≡ d) ⊎ (StandsBefore c d ⊎ StandsBefore d c)
is_total [] [] = inl refl
is_total [] (y ∷ d) = inr (inl tt)
is_total (x ∷ c) [] = inr (inr tt)
is_total (x ∷ c) (y ∷ d) = elim (cases_order x y) [
  | inl e ↦ elim (is_total c d) [
    | inl same ↦ inl (both_first x y c d e same)
    | inr (inl before) ↦ inr (inl (inr (e, before)))
    | inr (inr behind) ↦ inr (inr (inr (sym e, behind)))
  ]
  | inr (inl less) ↦ inr (inl (inl less))
  | inr (inr more) ↦ inr (inr (inl more))
]
