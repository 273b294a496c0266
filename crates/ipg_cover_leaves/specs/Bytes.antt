-- The bytes that leaves put, each with its place.
use Rattle.std.specs.Prelude.{ℕ, ◌+◌, ◌^◌, List, [], ◌∷◌, ◌++◌, Option, Some, None, ℤ, pos, negsuc, nat_lt, if◌then◌else◌, option_map}
use Rattle.std.specs.List.{flat_map}
use Rattle.std.specs.Int.{w8, w16, w32, to_le_bytes, to_be_bytes}
use Rattle.ipg_core.specs.declared.grammar.Primitive.{Primitive}
use Rattle.ipg_core.specs.declared.grammar.Primitive.TheVariants.{U8, U16LE, U16BE, U32LE, U32BE, U64LE, U64BE, Bytes}
use Rattle.ipg_cover_leaves.specs.declared.leaf.Leaf.{Leaf}
use Rattle.ipg_cover_leaves.specs.declared.leaf.Leaf.TheVariants.{Text, Number, Raw}

-- the number, where it is from 0 to one less than `limit`
abbrev pub below : ℕ → ℤ → Option ℕ
below limit (pos n) = if nat_lt n limit then Some n else None
below limit (negsuc n) = None

-- what is made of both, where both are there
abbrev pub both : (ℕ → ℕ → List ℕ) → Option ℕ → Option ℕ → Option (List ℕ)
both make None low = None
both make (Some h) low = option_map (make h) low

-- what both halves of a number of the primitive lie below
abbrev pub limits : Primitive → ℕ × ℕ
limits U8 = (1, 2 ^ 8)
limits U16LE = (1, 2 ^ 16)
limits U16BE = (1, 2 ^ 16)
limits U32LE = (1, 2 ^ 32)
limits U32BE = (1, 2 ^ 32)
limits U64LE = (2 ^ 32, 2 ^ 32)
limits U64BE = (2 ^ 32, 2 ^ 32)
limits Bytes = (0, 0)

-- both halves in the width and the order of the primitive
abbrev pub written : Primitive → ℕ → ℕ → List ℕ
written U8 high low = to_le_bytes w8 low
written U16LE high low = to_le_bytes w16 low
written U16BE high low = to_be_bytes w16 low
written U32LE high low = to_le_bytes w32 low
written U32BE high low = to_be_bytes w32 low
written U64LE high low = to_le_bytes w32 low ++ to_le_bytes w32 high
written U64BE high low = to_be_bytes w32 high ++ to_be_bytes w32 low
written Bytes high low = []

-- the bytes of a number; None where the primitive can't have it
abbrev pub number_bytes : Primitive → ℤ → ℤ → Option (List ℕ)
number_bytes prim high low = both (written prim) (below (limits prim).0 high) (below (limits prim).1 low)

abbrev pub leaf_bytes : Leaf → Option (List ℕ)
leaf_bytes (Text from bytes) = Some bytes
leaf_bytes (Number prim from high low) = number_bytes prim high low
leaf_bytes (Raw from bytes) = Some bytes

abbrev pub place_of : Leaf → ℕ
place_of (Text from bytes) = from
place_of (Number prim from high low) = from
place_of (Raw from bytes) = from

-- bytes from a place on, each with its place
abbrev pub from_on : ℕ → List ℕ → List (ℕ × ℕ)
from_on at [] = []
from_on at (b ∷ bytes) = (at, b) ∷ from_on (at + 1) bytes

abbrev pub or_none : Option (List ℕ) → List ℕ
or_none None = []
or_none (Some bytes) = bytes

-- each byte of a leaf, with its place
abbrev pub puts_of : Leaf → List (ℕ × ℕ)
puts_of leaf = from_on (place_of leaf) (or_none (leaf_bytes leaf))

-- each byte that leaves put, with its place
abbrev pub puts : List Leaf → List (ℕ × ℕ)
puts leaves = flat_map puts_of leaves
