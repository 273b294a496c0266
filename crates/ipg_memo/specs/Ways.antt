-- The way of a key: from its head on, and at each row of another key to one of the eight cells under it.
use Rattle.std.specs.Prelude.{◌≡◌, ℕ, zero, suc, ◌+◌, ◌<◌, Bool, cond, ◌&&◌, Option, None, Some, List, []}
use Rattle.std.specs.Prelude.{◌∷◌, ◌++◌, length, slice_get, slice_set, replicate, nat_eq, option_map}
use Rattle.ipg_memo.specs.declared.memo.Key.{Key}
use Rattle.ipg_memo.specs.declared.memo.Entry.{Entry}
use Rattle.ipg_memo.specs.declared.reached.Reached.{Reached}
use Rattle.ipg_memo.specs.declared.reached.Reached.TheVariants.{Row, Vacant, Bare, Lost}
use Rattle.ipg_memo.specs.declared.reached.Step.{Step}
use Rattle.ipg_memo.specs.declared.reached.Step.TheVariants.{Stops, Goes}
use Rattle.ipg_memo.specs.Table.{Table}
use Rattle.ipg_memo.specs.Places.{home, side}
use Rattle.ipg_memo.specs.Parted.{IsSmall, IsParted}

-- the entries, in the order in which their keys came
abbrev pub Rows : Type 0
Rows = List (Key × Entry)

-- the key of a row
abbrev pub key_at : Rows → ℕ → Option Key
key_at rows row = option_map (λ known. known.0) (slice_get rows row)

abbrev pub same_key : Key → Key → Bool
same_key a b = nat_eq a.rule b.rule && (nat_eq a.from b.from && nat_eq a.to b.to)

-- on from a row of another key
abbrev pub from_cells : Key → (left row : ℕ) → Option (Option ℕ) → Step
from_cells key left row None = Stops Lost
from_cells key left row (Some None) = Stops (Bare row (side key left))
from_cells key left row (Some (Some begin)) = Goes (begin + side key left)

abbrev pub past : Table → Key → (left row : ℕ) → Step
past table key zero row = Stops Lost
past table key (suc left) row = from_cells key (suc left) row (slice_get table.below row)

abbrev pub at_row : Table → Key → (left row : ℕ) → Option Key → Step
at_row table key left row None = Stops Lost
at_row table key left row (Some other) = cond (same_key key other) (Stops (Row row)) (past table key left row)

abbrev pub at_cell : (ℕ → Option Key) → Table → Key → (left cell : ℕ) → Option (Option ℕ) → Step
at_cell keys table key left cell None = Stops Lost
at_cell keys table key left cell (Some None) = Stops (Vacant cell)
at_cell keys table key left cell (Some (Some row)) = at_row table key left row (keys row)

abbrev pub step : (ℕ → Option Key) → Table → Key → (left cell : ℕ) → Step
step keys table key left cell = at_cell keys table key left cell (slice_get table.cells cell)

abbrev pub end_of : Step → (ℕ → Reached) → Reached
end_of (Stops reached) on = reached
end_of (Goes cell) on = on cell

-- where the way of a key ends, from a cell on, while so many bits of its numbers are left; the rows have these keys
unfoldable pub way : (ℕ → Option Key) → Table → Key → (left cell : ℕ) → Reached
way keys table key zero cell = end_of (step keys table key zero cell) (λ _. Lost)
way keys table key (suc left) cell = end_of (step keys table key (suc left) cell) (way keys table key left)

abbrev pub reached : (ℕ → Option Key) → Table → Key → Reached
reached keys table key = way keys table key 32 (home table.heads key)

-- how many rows a cell names
abbrev pub named_by : Option (Option ℕ) → ℕ
named_by None = 0
named_by (Some None) = 0
named_by (Some (Some row)) = 1

abbrev pub count_on : Step → (ℕ → ℕ) → ℕ
count_on (Stops reached) on = 0
count_on (Goes cell) on = on cell

-- how many rows a way passes, with the one that it ends at
unfoldable pub passed : (ℕ → Option Key) → Table → Key → (left cell : ℕ) → ℕ
passed keys table key zero cell = named_by (slice_get table.cells cell)
passed keys table key (suc left) cell =
    named_by (slice_get table.cells cell) + count_on (step keys table key (suc left) cell) (passed keys table key left)

abbrev pub rows_passed : (ℕ → Option Key) → Table → Key → ℕ
rows_passed keys table key = passed keys table key 32 (home table.heads key)

-- each of the first rows is found by its key
abbrev pub Finds : Rows → Table → ℕ → Type 0
Finds rows table count = (row : ℕ) (key : Key) → row < count → key_at rows row ≡ Some key → reached (key_at rows) table key ≡ Row row

abbrev pub IsMore : (keys more : ℕ → Option Key) → Type 0
IsMore keys more = (row : ℕ) (key : Key) → keys row ≡ Some key → more row ≡ Some key

-- a way that ends so
abbrev pub IsEnd : Table → Reached → Type 0
IsEnd table end = (keys : ℕ → Option Key) × (key : Key) × (reached keys table key ≡ end)

-- no row has the key whose way ended so, and there is a place for one
abbrev pub IsFree : Reached → Type 0
IsFree (Row row) = ⊥
IsFree (Vacant cell) = Unit {0}
IsFree (Bare row side) = Unit {0}
IsFree Lost = ⊥

-- what was found is found
abbrev pub Stays : (old new : Table) → Type 0
Stays old new = (keys : ℕ → Option Key) (key : Key) (row : ℕ) → reached keys old key ≡ Row row → reached keys new key ≡ Row row

-- what was parted is
abbrev pub StaysParted : (old new : Table) → Type 0
StaysParted old new = (keys : ℕ → Option Key) (count : ℕ) → IsParted keys old count → IsParted keys new count

-- the keys whose way ended so lead to a row, what was found is found, and what was parted is: whichever rows come behind
pub record Leads (old new : Table) (end : Reached) (row : ℕ) : Type 0 where
  pub stays : (keys more : ℕ → Option Key) → IsMore keys more → (key : Key) (r : ℕ) → reached keys old key ≡ Row r → reached more new key ≡ Row r
  pub leads : (keys more : ℕ → Option Key) → IsMore keys more → (key : Key) → reached keys old key ≡ end → more row ≡ Some key → reached more new key ≡ Row row
  pub parts : (keys more : ℕ → Option Key) → IsMore keys more → (key : Key) → IsSmall key → reached keys old key ≡ end → more row ≡ Some key
      → IsParted keys old row → IsParted more new (row + 1)

-- eight cells more, which lie under a row
abbrev pub opened : Table → (row : ℕ) → Table
opened table row =
    record { heads = table.heads; cells = table.cells ++ replicate 8 None; below = slice_set table.below row (Some (length table.cells)) }

-- cells more, which lie under no row
abbrev pub IsWider : (old new : Table) → Type 0
IsWider old new = (count : ℕ) × (new ≡ record { heads = old.heads; cells = old.cells ++ replicate count None; below = old.below })

-- a row more, which a cell names
abbrev pub linked : Table → (cell row : ℕ) → Table
linked table cell row = record { heads = table.heads; cells = slice_set table.cells cell (Some row); below = table.below ++ None ∷ [] }

-- the entry of the row that a way ended at
abbrev pub entry_at : Rows → Reached → Option Entry
entry_at rows (Row row) = option_map (λ known. known.1) (slice_get rows row)
entry_at rows (Vacant cell) = None
entry_at rows (Bare row side) = None
entry_at rows Lost = None

-- a way that isn't lost
abbrev pub Ends : Reached → Type 0
Ends end = end ≡ Lost → ⊥

-- no two rows have one key
abbrev pub AreDistinct : Rows → Type 0
AreDistinct rows = (i j : ℕ) (key : Key) → key_at rows i ≡ Some key → key_at rows j ≡ Some key → i ≡ j

-- each of the first rows is found, and their keys part
pub record IsWhole (rows : Rows) (table : Table) (count : ℕ) : Type 0 where
  pub finds : Finds rows table count
  pub parted : IsParted (key_at rows) table count

-- all rows are found, and their keys part; without an index there are none
abbrev pub IsIndexed : Rows → Option Table → Type 0
IsIndexed rows None = rows ≡ []
IsIndexed rows (Some table) = IsWhole rows table (length rows)
