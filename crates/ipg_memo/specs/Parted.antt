-- Keys part on their ways: who comes to one cell began at one head and turned to the same sides. So no key runs out of bits
-- before it comes to a row of its own, to an empty cell, or to a row without cells under it.
use Rattle.std.specs.Prelude.{◌≡◌, ℕ, zero, suc, ◌+◌, ◌-◌, ◌^◌, ◌<◌, ◌≤◌, Option, Some, List, [], ◌∷◌, length, slice_get}
use Rattle.ipg_memo.specs.declared.memo.Key.{Key}
use Rattle.ipg_memo.specs.Table.{Table}
use Rattle.ipg_memo.specs.Places.{home, side}

-- a head, and the sides that were turned to from there, the last first
pub record Spot : Type 0 where
  pub head : ℕ
  pub turns : List ℕ

-- a turn more
abbrev pub under : Spot → (side : ℕ) → Spot
under spot side = record { head = spot.head; turns = side ∷ spot.turns }

-- the sides that a key turns to by so many bits of its numbers
abbrev pub turns : Key → (count : ℕ) → List ℕ
turns key zero = []
turns key (suc count) = side key (32 - count) ∷ turns key count

-- where a key is after so many turns
abbrev pub spot_of : (heads : ℕ) → Key → (count : ℕ) → Spot
spot_of heads key count = record { head = home heads key; turns = turns key count }

-- its numbers have 32 bits
pub record IsSmall (key : Key) : Type 0 where
  pub rule : key.rule < 2 ^ 32
  pub from : key.from < 2 ^ 32
  pub to : key.to < 2 ^ 32

-- a row has a key, which comes to the row's spot
abbrev pub IsKeyed : (heads : ℕ) → Option Key → Spot → Type 0
IsKeyed heads known spot = (key : Key) × (count : ℕ) × (known ≡ Some key) × IsSmall key × (spot ≡ spot_of heads key count)

-- each cell and each of so many rows has a spot: a head's cell has the head without a turn, a row has that of the cell which names it,
-- and the cells under a row have each a turn more
pub record IsParted (keys : ℕ → Option Key) (table : Table) (count : ℕ) : Type 0 where
  pub spot : (cell : ℕ) → Spot
  pub spot_of_row : (row : ℕ) → Spot
  pub enough : 16 ≤ table.heads
  pub counted : length table.below ≡ count
  pub heads : (head : ℕ) → head < table.heads → (head < length table.cells) × (spot head ≡ record { head = head; turns = [] })
  pub named : (cell row : ℕ) → slice_get table.cells cell ≡ Some (Some row) → (row < count) × (spot cell ≡ spot_of_row row)
  pub keyed : (row : ℕ) → row < count → IsKeyed table.heads (keys row) (spot_of_row row)
  pub below : (row begin turn : ℕ) → slice_get table.below row ≡ Some (Some begin) → turn < 8
      → (begin + turn < length table.cells) × (spot (begin + turn) ≡ under (spot_of_row row) turn)
