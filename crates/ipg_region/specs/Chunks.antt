-- Cells as chunks of one size, of which all but the last are full.
use Rattle.std.specs.Prelude.{◌≡◌, ℕ, ◌-◌, ◌^◌, ◌<◌, ◌≤◌, List, [], ◌∷◌, ◌++◌, length, vec_capacity}
use Rattle.std.specs.List.{AllByRecursion}
use Rattle.ipg_region.specs.Filled.{Filled}
use Rattle.ipg_region.specs.declared.chunk.Chunk.TheInside as chunk
use Rattle.ipg_region.specs.declared.cells.Cells.TheInside as cells

-- how many items a chunk has room for at most
abbrev pub size : ℕ
size = 8192

-- the items of all chunks
abbrev pub joined : {T : Type 0} → List (Filled T) → List T
joined [] = []
joined (chunk ∷ chunks) = chunk.items ++ joined chunks

abbrev pub IsFull : {T : Type 0} → Filled T → Type 0
IsFull chunk = length chunk.items ≡ size

module _ {T A : Type 0} where
  abbrev pub filled_in_chunk : chunk.Inside T A → Filled T
  filled_in_chunk a = record { items = a.items.items; spare = vec_capacity a.items - length a.items.items }

  abbrev pub IsSized : chunk.Inside T A → Type 0
  IsSized a = vec_capacity a.items ≤ size

  abbrev pub filled_in : cells.Inside T A → Filled T
  filled_in a = record { items = joined a.full.items ++ a.last.items; spare = a.last.spare }

  -- places are numbers of 32 bits
  pub record AreChunks (a : cells.Inside T A) : Type 0 where
    pub full : AllByRecursion IsFull a.full.items
    pub few : length a.full.items < 2 ^ 19 - 1
