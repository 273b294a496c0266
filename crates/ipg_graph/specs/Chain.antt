-- Where a key comes next in a list of keys.
use Rattle.std.specs.Prelude.{◌≡◌, ℕ, ◌+◌, ◌<◌, ◌≤◌, ◌^◌, List, length, slice_index_or}
use Rattle.ipg_graph.specs.Graph.{Graph}

-- keys below a limit; another number stands for no key
pub record Keys : Type 0 where
  pub keys : List ℕ
  pub limit : ℕ

abbrev pub key : Keys → ℕ → ℕ
key k i = slice_index_or k.keys i k.limit

-- the first place of v that is not before `low`, or the list's length where there is none
pub record IsFirst (k : Keys) (v low place : ℕ) : Type 0 where
  pub from : low ≤ place
  pub within : place ≤ length k.keys
  pub none : (j : ℕ) → low ≤ j → j < place → key k j ≡ v → ⊥
  pub here : place < length k.keys → key k place ≡ v

-- the first place of each key, and the next one behind each place, as far down as `low`
pub record IsLinked (k : Keys) (firsts nexts : List ℕ) (low : ℕ) : Type 0 where
  pub small : length k.keys < 2 ^ 32
  pub firsts_len : length firsts ≡ k.limit
  pub nexts_len : length nexts ≡ length k.keys
  pub first : (v : ℕ) → v < k.limit → IsFirst k v low (slice_index_or firsts v 0)
  pub next : (i : ℕ) → low ≤ i → i < length k.keys → key k i < k.limit → IsFirst k (key k i) (i + 1) (slice_index_or nexts i 0)

-- the two ends of a graph's edges
abbrev pub callers_of : Graph → Keys
callers_of g = record { keys = g.callers; limit = g.rules }

abbrev pub callees_of : Graph → Keys
callees_of g = record { keys = g.callees; limit = g.rules }
