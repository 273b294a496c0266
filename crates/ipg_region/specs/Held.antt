-- What a region holds: runs of items in the order they were placed, and room set aside for more.
use Rattle.std.specs.Prelude.{ℕ, ◌-◌, ◌≤◌, List, [], ◌∷◌, ◌++◌, length, take}

-- how many more runs, and how many more items in all
pub record Room : Type 0 where
  pub runs : ℕ
  pub items : ℕ

pub record Held (T : Type 0) : Type 0 where
  pub runs : List (List T)
  pub spare : Room

-- no runs, and no room
abbrev pub nothing_held : {T : Type 0} → Held T
nothing_held = record { runs = []; spare = record { runs = 0; items = 0 } }

-- one run more, at the end; its room is taken from what is spare
abbrev pub with_run : {T : Type 0} → Held T → List T → Held T
with_run held run =
    record { runs = held.runs ++ run ∷ []; spare = record { runs = held.spare.runs - 1; items = held.spare.items - length run } }

-- n runs and k items in all of them find room, at least
pub record HasRoom {T : Type 0} (held : Held T) (n k : ℕ) : Type 0 where
  pub runs : n ≤ held.spare.runs
  pub items : k ≤ held.spare.items

-- the runs before a place alone
abbrev pub before : {T : Type 0} → Held T → ℕ → Held T
before held to = record { runs = take to held.runs; spare = held.spare }
