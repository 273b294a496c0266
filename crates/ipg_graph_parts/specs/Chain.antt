-- Where a key comes next in a list of keys.
use Rattle.std.specs.Prelude.{◌≡◌, ℕ, ◌+◌, ◌-◌, ◌<◌, ◌≤◌, ◌^◌, List, Option, Some, None, All, length, slice_index_or}
use Rattle.ipg_graph.specs.Graph.{Graph}

-- keys, all below the limit
pub record Keys : Type 0 where
  pub keys : List ℕ
  pub limit : ℕ

abbrev pub key : Keys → ℕ → ℕ
key k i = slice_index_or k.keys i k.limit

-- j stands before the place, if there is one
abbrev pub IsBefore : ℕ → Option ℕ → Type 0
IsBefore j None = Unit {0}
IsBefore j (Some place) = j < place

-- the place, if there is one, has the key v, and isn't before `low`
abbrev pub IsPlace : Keys → ℕ → ℕ → Option ℕ → Type 0
IsPlace k v low None = Unit {0}
IsPlace k v low (Some place) = (low ≤ place) × ((place < length k.keys) × (key k place ≡ v))

-- the first place of v that isn't before `low`, if there is one
pub record IsFirst (k : Keys) (v low : ℕ) (place : Option ℕ) : Type 0 where
  pub here : IsPlace k v low place
  pub none : (j : ℕ) → low ≤ j → j < length k.keys → IsBefore j place → key k j ≡ v → ⊥

-- the first place of each key, and the next one behind each place, as far down as `low`
pub record IsLinked (k : Keys) (firsts nexts : List (Option ℕ)) (low : ℕ) : Type 0 where
  pub few : length k.keys < 2 ^ 32
  pub inside : All (λ v. v < k.limit) k.keys
  pub firsts_len : length firsts ≡ k.limit
  pub nexts_len : length nexts ≡ length k.keys
  pub first : (v : ℕ) → v < k.limit → IsFirst k v low (slice_index_or firsts v None)
  pub next : (i : ℕ) → low ≤ i → i < length k.keys → IsFirst k (key k i) (i + 1) (slice_index_or nexts i None)

-- the two ends of a graph's edges
abbrev pub callers_of : Graph → Keys
callers_of g = record { keys = g.callers; limit = g.rules }

abbrev pub callees_of : Graph → Keys
callees_of g = record { keys = g.callees; limit = g.rules }

-- how many places are left from this one on
abbrev pub left_from : ℕ → Option ℕ → ℕ
left_from places None = 0
left_from places (Some place) = places - place
