-- The nearest item of a list to the left of a place, else the first to the right; the item at the place doesn't count.
use Rattle.std.specs.Prelude.{ℕ, ◌+◌, Bool, List, [], ◌∷◌, take, drop, Option, Some, None, if◌then◌else◌}

-- the place of the first item that passes, where the list begins at place n
abbrev pub first_from : {A : Type 0} → (A → Bool) → ℕ → List A → Option ℕ
first_from passes n [] = None
first_from passes n (x ∷ xs) = if passes x then Some n else first_from passes (n + 1) xs

-- the place of the last item that passes, or the one found before
abbrev pub last_from : {A : Type 0} → (A → Bool) → ℕ → Option ℕ → List A → Option ℕ
last_from passes n found [] = found
last_from passes n found (x ∷ xs) = last_from passes (n + 1) (if passes x then Some n else found) xs

abbrev pub or_else : Option ℕ → Option ℕ → Option ℕ
or_else None other = other
or_else (Some n) other = Some n

abbrev pub left_of : {A : Type 0} → (A → Bool) → List A → ℕ → Option ℕ
left_of passes xs u = last_from passes 0 None (take u xs)

abbrev pub right_of : {A : Type 0} → (A → Bool) → List A → ℕ → Option ℕ
right_of passes xs u = first_from passes (u + 1) (drop (u + 1) xs)

abbrev pub nearest : {A : Type 0} → (A → Bool) → List A → ℕ → Option ℕ
nearest passes xs u = or_else (left_of passes xs u) (right_of passes xs u)
