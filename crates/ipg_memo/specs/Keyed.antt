-- What a memo holds: a finite map from keys to entries, in the keys' order by rule, then from, then to.
use Rattle.std.specs.Prelude.{◌≡◌, ℕ, List, Option, None, Some, refl}
use Rattle.std.specs.declared.cmp.Ordering.{Ordering}
use Rattle.std.specs.Ordering.{nat_cmp, ordering_then}
use Rattle.std.specs.FinMap as map
use Rattle.std.specs.Coded.{Coded, code_by, coded×, coded_ℕ, coded_option}
use Rattle.ipg_memo.specs.declared.memo.Key.{Key}
use Rattle.ipg_memo.specs.declared.memo.Entry.{Entry}
use Rattle.ipg_memo.specs.declared.memo.Entry.TheVariants.{NoTree, Node}

abbrev pub key_cmp : Key → Key → Ordering
key_cmp a b = ordering_then (nat_cmp a.rule b.rule) (ordering_then (nat_cmp a.from b.from) (nat_cmp a.to b.to))

-- what contracts see of a memo
abbrev pub Entries : Type 0
Entries = map.FinMap key_cmp Entry

-- the entries in a list of rows
abbrev pub of_rows : List (Key × Entry) → Entries
of_rows rows = map.from_entries {R = key_cmp} rows

-- a key is stored as its three numbers
abbrev pub key_code : Coded Key
key_code =
    code_by (ℕ × (ℕ × ℕ)) (coded× coded_ℕ (coded× coded_ℕ coded_ℕ)) (λ k. (k.rule, (k.from, k.to)))
    (λ p. record { rule = p.0; from = p.1.0; to = p.1.1 }) (λ _. refl)

-- an entry is stored as the place of its node, if it has one
abbrev pub place_of : Entry → Option ℕ
place_of NoTree = None
place_of (Node id) = Some id.place

abbrev pub entry_at : Option ℕ → Entry
entry_at None = NoTree
entry_at (Some place) = Node (record { place = place })

pub entry_at_place : (e : Entry) → entry_at (place_of e) ≡ e
entry_at_place NoTree = refl
entry_at_place (Node id) = refl

abbrev pub entry_code : Coded Entry
entry_code = code_by (Option ℕ) (coded_option coded_ℕ) place_of entry_at entry_at_place
