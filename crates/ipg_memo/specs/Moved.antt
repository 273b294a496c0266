-- What becomes of the entries where an edit puts new bytes in place of those from one place to another.
use Rattle.std.specs.Prelude.{◌≡◌, ℕ, ◌+◌, ◌-◌, ◌^◌, ◌<◌, ◌≤◌, ◌⊎◌, Some, None}
use Rattle.std.specs.FinMap as map
use Rattle.ipg_memo.specs.declared.memo.Key.{Key}
use Rattle.ipg_memo.specs.declared.memo.Entry.{Entry}
use Rattle.ipg_memo.specs.Keyed.{Entries}

-- a key behind an edit, at its new place: raised by so many new bytes, less those that went
abbrev pub raised : (from to with : ℕ) → Key → Key
raised from to with key = record { rule = key.rule; from = key.from + with - (to - from); to = key.to + with - (to - from) }

-- the key's interval begins at or behind the edit's end, and not before it ends; it doesn't end where the edit begins, and its
-- new place is one of 32 bits, as each is in an input of at most 2^30 bytes
pub record IsBehind (from to with : ℕ) (key : Key) : Type 0 where
  pub begins : to ≤ key.from
  pub ordered : key.from ≤ key.to
  pub past : from < key.to
  pub fits : (raised from to with key).to < 2 ^ 32

-- a key that ends at or before the edit has its entry still
pub record IsThere (from : ℕ) (key : Key) (old new : Entries) : Type 0 where
  pub ends : key.to ≤ from
  pub entry : Entry
  pub had : map.get old key ≡ Some entry
  pub has : map.get new key ≡ Some entry

-- an entry of a key behind the edit, which was moved to this key
pub record CameFrom (from to with : ℕ) (key : Key) (entry : Entry) (old : Entries) : Type 0 where
  pub was : Key
  pub behind : IsBehind from to with was
  pub here : raised from to with was ≡ key
  pub had : map.get old was ≡ Some entry

-- the key has an entry, as before; or it had none, and has this one
abbrev pub IsThereOrPut : Key → Entry → Entries → Entries → Type 0
IsThereOrPut key entry old new =
    (((one : Entry) × (map.get old key ≡ Some one)) × (new ≡ old)) ⊎ ((map.get old key ≡ None) × (new ≡ map.insert old key entry))

-- the entries of keys that end at or before the edit stay; each of a key behind it moves, unless the key has an entry there;
-- there are no others
pub record IsMoved (from to with : ℕ) (old new : Entries) : Type 0 where
  pub kept : (key : Key) (entry : Entry) → map.get old key ≡ Some entry → key.to ≤ from → map.get new key ≡ Some entry
  pub moved : (key : Key) (entry : Entry) → map.get old key ≡ Some entry → IsBehind from to with key
      → (map.get new (raised from to with key) ≡ Some entry) ⊎ IsThere from (raised from to with key) old new
  pub only : (key : Key) (entry : Entry) → map.get new key ≡ Some entry
      → ((key.to ≤ from) × (map.get old key ≡ Some entry)) ⊎ CameFrom from to with key entry old
