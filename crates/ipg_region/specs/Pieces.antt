-- The runs as they lie in a block: the items one after another, and where each run ends.
use Rattle.std.specs.Prelude.{◌≡◌, ℕ, zero, suc, ◌-◌, ◌≤◌, ◌^◌, min, List, [], ◌∷◌, length, take, drop, vec_len, vec_capacity}
use Rattle.ipg_region.specs.Held.{Held}
use Rattle.ipg_region.specs.declared.block.Block.TheInside.{Inside}

-- no runs, and room for so many runs and items
abbrev pub empty_for : {T : Type 0} → ℕ → ℕ → Held T
empty_for runs items = record { runs = []; spare = record { runs = runs; items = items } }

-- the items from `from` on, parted at the ends
abbrev pub pieces : {T : Type 0} → List T → ℕ → List ℕ → List (List T)
pieces items from [] = []
pieces items from (end ∷ ends) = take (end - from) (drop from items) ∷ pieces items end ends

-- the ends never fall, from `from` on, and the last is `to`
abbrev pub Rises : ℕ → List ℕ → ℕ → Type 0
Rises from [] to = from ≡ to
Rises from (end ∷ ends) to = (from ≤ end) × Rises end ends to

-- where the runs end that come before the place k
abbrev pub end_before : ℕ → List ℕ → ℕ → ℕ
end_before from ends zero = from
end_before from [] (suc k) = from
end_before from (end ∷ ends) (suc k) = end_before end ends k

-- an end is a number of 32 bits
abbrev pub most_items : ℕ
most_items = 2 ^ 32 - 1

module _ {T A : Type 0} where
  -- what the fields stand for: the runs, and the room that is left for more
  abbrev pub held_in : Inside T A → Held T
  held_in a = record {
    runs = pieces a.items.items 0 a.ends.items;
    spare = record { runs = vec_capacity a.ends - vec_len a.ends; items = min (vec_capacity a.items) most_items - vec_len a.items };
  }

  -- the ends part the items
  abbrev pub IsSound : Inside T A → Type 0
  IsSound a = Rises 0 a.ends.items (length a.items.items) × (length a.items.items ≤ most_items)
