-- Which keys have to run where the answers of some keys are known beforehand.
use Rattle.std.specs.Prelude.{◌≢◌, ◌⊎◌, ℕ, List, [], ◌∷◌, None}
use Rattle.ipg_core.specs.Grammar.{Grammar}
use Rattle.ipg_mach_moves.specs.Moves.{Key, Known, find}
use Rattle.ipg_mach_count_laws.specs.Counts.{direct, Has, NoneTwice, first_key, IsChain}

-- each key of the one list is one of the other
abbrev pub AreAmong : List Key → List Key → Type 0
AreAmong keys more = (key : Key) → Has keys key → Has more key

-- the same keys, in whatever order and however often
abbrev pub AreSame : List Key → List Key → Type 0
AreSame keys same = AreAmong keys same × AreAmong same keys

-- no key is in both lists
abbrev pub AreApart : List Key → List Key → Type 0
AreApart keys other = (key : Key) → Has keys key → Has other key → ⊥

-- these are the keys of which an answer is known
abbrev pub AreKnown : Known → List Key → Type 0
AreKnown known keys = (key : Key) → (find known key ≢ None → Has keys key) × (Has keys key → find known key ≢ None)

abbrev pub keys_of : Known → List Key
keys_of [] = []
keys_of (entry ∷ known) = entry.0 ∷ keys_of known

-- a key is reached from the first by calls of keys that aren't kept; it may be kept itself
abbrev pub IsReachedWithout : Grammar → List ℕ → ℕ → List Key → Key → Type 0
IsReachedWithout g s h kept key = (chain : List Key) × IsChain g s h key chain × AreApart chain kept

-- the keys that have to run where some are kept: each once, none of them kept; the first, or it is kept; with each key all those
-- that it calls, or they are kept; and no others
pub record IsFresh (g : Grammar) (s : List ℕ) (h : ℕ) (kept keys : List Key) : Type 0 where
  pub once : NoneTwice keys
  pub new : AreApart keys kept
  pub first : Has keys (first_key s) ⊎ Has kept (first_key s)
  pub closed : (key called : Key) → Has keys key → Has (direct g s h key) called → Has keys called ⊎ Has kept called
  pub only : (key : Key) → Has keys key → IsReachedWithout g s h kept key
