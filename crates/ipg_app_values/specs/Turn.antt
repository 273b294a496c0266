-- A text that is put together of texts of the items of a list, in turn.
use Rattle.std.specs.Prelude.{◌≡◌, ℕ, suc, List, [], ◌∷◌, ◌++◌}

-- `IsOf` says which texts are of an item and its number; the first has the number n
abbrev pub InTurn : {A : Type 0} → (ℕ → A → List ℕ → Type 0) → ℕ → List A → List ℕ → Type 0
InTurn IsOf n [] text = text ≡ []
InTurn IsOf n (x ∷ xs) text = (own : List ℕ) × (rest : List ℕ) × IsOf n x own × InTurn IsOf (suc n) xs rest × (text ≡ own ++ rest)
