-- Flags of vertices.
use Rattle.std.specs.Prelude.{◌≡◌, ℕ, suc, List, [], ◌∷◌, Bool, true, false, slice_index_or}

-- how many are set
abbrev pub marked : List Bool → ℕ
marked [] = 0
marked (true ∷ flags) = suc (marked flags)
marked (false ∷ flags) = marked flags

-- v is free to be visited: it is a vertex, and was not seen
abbrev pub IsUnseen : List Bool → ℕ → Type 0
IsUnseen seen v = slice_index_or seen v true ≡ false

abbrev pub IsMarked : List Bool → ℕ → Type 0
IsMarked marks v = slice_index_or marks v false ≡ true

-- what is set stays set
pub record Grows (old new : List Bool) : Type 0 where
  pub kept : (v : ℕ) → IsUnseen new v → IsUnseen old v
