-- What stands in a list that was put together.
use Rattle.std.proofs.Common.{◌≡◌, List, [], ◌∷◌, ◌⊎◌, inl, inr, arith}
use Rattle.std.specs.List.{Contains}
use Rattle.std.proofs.lemmas.List.Elements.{Contains-push, Contains-push_cases, Contains-append_left, Contains-append_right, Contains-append_cases}

module _ {X : Type 0} where
  pub in_none : (x : X) → Contains [] x → ⊥
  in_none x h = omega (arith, h.1)

  pub in_first : (x : X) (xs : List X) → Contains (x ∷ xs) x
  in_first x xs = Contains-append_left (x ∷ []) xs x (Contains-push [] x)

  pub in_rest : (x : X) (xs : List X) (y : X) → Contains xs y → Contains (x ∷ xs) y
  in_rest x xs y h = Contains-append_right (x ∷ []) xs y h

  pub in_one : (x y : X) → Contains (x ∷ []) y → x ≡ y
  in_one x y h = elim (Contains-push_cases [] x y h) [ inl none ↦ absurd (in_none y none) | inr e ↦ e ]

  pub in_cases : (x : X) (xs : List X) (y : X) → Contains (x ∷ xs) y → (x ≡ y) ⊎ Contains xs y
  in_cases x xs y h = elim (Contains-append_cases (x ∷ []) xs y h) [ inl one ↦ inl (in_one x y one) | inr more ↦ inr more ]
