-- What comes of putting leaves back into so many bytes: these bytes, or the first of four refusals that holds.
use Rattle.std.specs.Prelude.{◌≡◌, ℕ, ◌<◌, List, Some, length, slice_get}
use Rattle.std.specs.List.{All, Contains}
use Rattle.ipg_cover_leaves.specs.declared.leaf.Leaf.{Leaf}
use Rattle.ipg_cover_leaves.specs.declared.fault.PutFault.{PutFault}
use Rattle.ipg_cover_leaves.specs.declared.fault.PutFault.TheVariants.{Value, Outside, Clash, Gap, Memory}
use Rattle.ipg_cover_leaves.specs.Bytes.{leaf_bytes, puts, puts_of}

-- its number is one that its primitive can have
abbrev pub HasBytes : Leaf → Type 0
HasBytes leaf = (bytes : List ℕ) × (leaf_bytes leaf ≡ Some bytes)

-- none of its bytes lies at or past the length
abbrev pub IsInside : ℕ → Leaf → Type 0
IsInside len leaf = (put : ℕ × ℕ) → Contains (puts_of leaf) put → put.0 < len

-- the first of them that isn't so
pub record IsFirstNot (Is : Leaf → Type 0) (leaves : List Leaf) (n : ℕ) : Type 0 where
  pub leaf : Leaf
  pub there : slice_get leaves n ≡ Some leaf
  pub not : ¬ Is leaf
  pub before : (k : ℕ) (other : Leaf) → k < n → slice_get leaves k ≡ Some other → Is other

-- all bytes that are put at a place are one byte
abbrev pub Agrees : List (ℕ × ℕ) → ℕ → Type 0
Agrees all at = (b c : ℕ) → Contains all (at, b) → Contains all (at, c) → b ≡ c

-- some byte is put at a place
abbrev pub IsPut : List (ℕ × ℕ) → ℕ → Type 0
IsPut all at = (b : ℕ) × Contains all (at, b)

-- the least place where two different bytes are put
pub record IsClash (all : List (ℕ × ℕ)) (at : ℕ) : Type 0 where
  pub one : ℕ
  pub other : ℕ
  pub is_one : Contains all (at, one)
  pub is_other : Contains all (at, other)
  pub differ : ¬ (one ≡ other)
  pub before : (place : ℕ) → place < at → Agrees all place

-- the least place below the length where none is
pub record IsGap (all : List (ℕ × ℕ)) (len at : ℕ) : Type 0 where
  pub within : at < len
  pub bare : ¬ IsPut all at
  pub before : (place : ℕ) → place < at → IsPut all place

abbrev pub HaveBytes : List Leaf → Type 0
HaveBytes leaves = All HasBytes leaves

abbrev pub AreInside : List Leaf → ℕ → Type 0
AreInside leaves len = HaveBytes leaves × All (IsInside len) leaves

abbrev pub Agree : List Leaf → ℕ → Type 0
Agree leaves len = AreInside leaves len × ((at : ℕ) → Agrees (puts leaves) at)

-- so many bytes, and each of them is one that the leaves put there, as all do that put one there
pub record IsBack (leaves : List Leaf) (len : ℕ) (bytes : List ℕ) : Type 0 where
  pub agree : Agree leaves len
  pub long : length bytes ≡ len
  pub each : (at b : ℕ) → slice_get bytes at ≡ Some b → Contains (puts leaves) (at, b)

abbrev pub IsPutFault : List Leaf → ℕ → PutFault → Type 0
IsPutFault leaves len (Value leaf) = IsFirstNot HasBytes leaves leaf
IsPutFault leaves len (Outside leaf) = HaveBytes leaves × IsFirstNot (IsInside len) leaves leaf
IsPutFault leaves len (Clash at) = AreInside leaves len × IsClash (puts leaves) at
IsPutFault leaves len (Gap at) = Agree leaves len × IsGap (puts leaves) len at
IsPutFault leaves len Memory = Unit {0}
