-- A list in chunks of one size, of which all but the last are full. The last one may have room for fewer.
use Rattle.std.specs.Prelude.{◌≡◌, ℕ, ◌-◌, ◌^◌, ◌≤◌, List, [], ◌∷◌, ◌++◌, length, vec_capacity}
use Rattle.ipg_memo.specs.Filled.{Filled}
use Rattle.ipg_memo.specs.declared.chunk.Chunk.TheInside as chunk
use Rattle.ipg_memo.specs.declared.chunks.Chunks.TheInside as chunks

-- how many items a chunk has room for at most
abbrev pub size : ℕ
size = 8192

-- the items of all chunks
abbrev pub joined : {T : Type 0} → List (Filled T) → List T
joined [] = []
joined (chunk ∷ chunks) = chunk.items ++ joined chunks

-- all but the last are full
abbrev pub ArePacked : {T : Type 0} → List (Filled T) → Type 0
ArePacked [] = Unit {0}
ArePacked (chunk ∷ []) = length chunk.items ≤ size
ArePacked (chunk ∷ next ∷ chunks) = (length chunk.items ≡ size) × ArePacked (next ∷ chunks)

-- the room in the last one
abbrev pub spare_in : {T : Type 0} → List (Filled T) → ℕ
spare_in [] = 0
spare_in (chunk ∷ []) = chunk.spare
spare_in (chunk ∷ next ∷ chunks) = spare_in (next ∷ chunks)

module _ {T A : Type 0} where
  abbrev pub filled_in_chunk : chunk.Inside T A → Filled T
  filled_in_chunk a = record { items = a.items.items; spare = vec_capacity a.items - length a.items.items }

  abbrev pub IsSized : chunk.Inside T A → Type 0
  IsSized a = vec_capacity a.items ≤ size

  abbrev pub filled_in : chunks.Inside T A → Filled T
  filled_in a = record { items = joined a.chunks.items; spare = spare_in a.chunks.items }

  -- the items are counted, and the chunks are few
  pub record AreCounted (a : chunks.Inside T A) : Type 0 where
    pub packed : ArePacked a.chunks.items
    pub count : a.count ≡ length (joined a.chunks.items)
    pub few : length a.chunks.items ≤ 2 ^ 19
