-- What an edit leaves of answers that are known.
use Rattle.std.specs.Prelude.{◌≡◌, ◌≢◌, ◌⊎◌, ℕ, ◌≤◌, ◌<◌, List, [], ◌∷◌, ◌++◌, length, Bool, ◌&&◌, nat_le, nat_lt, if◌then◌else◌, Result, Some, None}
use Rattle.ipg_core.specs.Grammar.{Grammar}
use Rattle.ipg_core.specs.Tree.{Tree}
use Rattle.ipg_core.specs.Run.{Stop}
use Rattle.ipg_mach_moves.specs.Moves.{Key, Known, find}
use Rattle.ipg_mach_moves.specs.Laws.{AreRight}
use Rattle.ipg_mach_count_laws.specs.Kept.{AreKnown}
use Rattle.ipg_edit_laws.specs.Edited.{edited, IsEditOf, moved}

-- the key, where its part comes to lie
abbrev pub moved_key : ℕ → ℕ → ℕ → Key → Key
moved_key from to new key = record { rule = key.rule; from = moved from to new key.from; to = moved from to new key.to }

-- the key's part begins at or behind the edit, and doesn't end where that begins
pub record IsBehind (from to : ℕ) (key : Key) : Type 0 where
  pub begins : to ≤ key.from
  pub ordered : key.from ≤ key.to
  pub past : from < key.to

abbrev pub is_behind : ℕ → ℕ → Key → Bool
is_behind from to key = nat_le to key.from && nat_le key.from key.to && nat_lt from key.to

-- answers of keys whose part ends at or before the edit stay known
abbrev pub that_stay : ℕ → Known → Known
that_stay from [] = []
that_stay from (entry ∷ known) = if nat_le entry.0.to from then entry ∷ that_stay from known else that_stay from known

-- those of keys behind it are known of the keys of their parts' new places
abbrev pub that_move : ℕ → ℕ → ℕ → Known → Known
that_move from to new [] = []
that_move from to new (entry ∷ known) =
    if is_behind from to entry.0 then (moved_key from to new entry.0, entry.1) ∷ that_move from to new known else that_move from to new known

abbrev pub known_after : ℕ → ℕ → ℕ → Known → Known
known_after from to new known = that_stay from known ++ that_move from to new known

-- the keys alone
abbrev pub keys_that_stay : ℕ → List Key → List Key
keys_that_stay from [] = []
keys_that_stay from (key ∷ keys) = if nat_le key.to from then key ∷ keys_that_stay from keys else keys_that_stay from keys

abbrev pub keys_that_move : ℕ → ℕ → ℕ → List Key → List Key
keys_that_move from to new [] = []
keys_that_move from to new (key ∷ keys) =
    if is_behind from to key then moved_key from to new key ∷ keys_that_move from to new keys else keys_that_move from to new keys

-- the keys that are kept through an edit
abbrev pub keys_after : ℕ → ℕ → ℕ → List Key → List Key
keys_after from to new keys = keys_that_stay from keys ++ keys_that_move from to new keys

-- ---- laws

-- what stays is known
abbrev pub KnownStays : Type 0
KnownStays = (from to new : ℕ) (known : Known) (key : Key) (answer : Result Tree Stop)
    → key.to ≤ from → find known key ≡ Some answer → find (known_after from to new known) key ≡ Some answer

-- so is what moves
abbrev pub KnownMoves : Type 0
KnownMoves = (from to new : ℕ) (known : Known) (key : Key) → from ≤ to → IsBehind from to key → find known key ≢ None
    → find (known_after from to new known) (moved_key from to new key) ≢ None

-- and nothing else
abbrev pub NothingElse : Type 0
NothingElse = (from to new : ℕ) (known : Known) (key : Key) (answer : Result Tree Stop)
    → from ≤ to → find (known_after from to new known) key ≡ Some answer
    → ((key.to ≤ from) × (find known key ≡ Some answer))
    ⊎ ((was : Key) × IsBehind from to was × (moved_key from to new was ≡ key) × (find known was ≡ Some answer))

-- a key that moved was one key
abbrev pub OneOrigin : Type 0
OneOrigin = (from to new : ℕ) (one other : Key) → from ≤ to → IsBehind from to one → IsBehind from to other
    → moved_key from to new one ≡ moved_key from to new other → one ≡ other

-- the keys that are kept are those of which an answer is known
abbrev pub KeysAfterAreKnown : Type 0
KeysAfterAreKnown = (from to new : ℕ) (known : Known) (kept : List Key) → from ≤ to → AreKnown known kept
    → AreKnown (known_after from to new known) (keys_after from to new kept)

-- what was right to know of an input is right of the edited one
abbrev pub StaysRightToKnow : Type 0
StaysRightToKnow = (g : Grammar) (input with : List ℕ) (from to : ℕ) (known : Known) → IsEditOf input from to → AreRight g input (Some known)
    → AreRight g (edited input from to with) (Some (known_after from to (length with) known))
