-- The levels of a walk, and the room for them.
use Rattle.std.specs.Prelude.{◌≡◌, ℕ, ◌<◌, ◌≤◌, ◌^◌, List, ◌∷◌, reverse, vec_capacity}
use Rattle.ipg_tree_walk.specs.declared.stack.Level.{Level}
use Rattle.ipg_tree_walk.specs.declared.stack.LevelStack.TheInside.{Inside}

-- the levels, the innermost first, and how many there may be
pub record Stacked : Type 0 where
  pub levels : List Level
  pub room : ℕ

-- the level is the innermost
abbrev pub IsLast : Level → List Level → Type 0
IsLast level levels = (around : List Level) × (levels ≡ level ∷ around)

-- the level stands in the place of the innermost
abbrev pub Replaces : Level → List Level → List Level → Type 0
Replaces level old new = (last : Level) → (around : List Level) → old ≡ last ∷ around → new ≡ level ∷ around

-- the innermost was taken away
abbrev pub Leaves : List Level → List Level → Type 0
Leaves old new = (last : Level) → (around : List Level) → old ≡ last ∷ around → new ≡ around

module _ {A : Type 0} where
  abbrev pub stacked : Inside A → Stacked
  stacked s = record { levels = reverse s.levels.items; room = s.room }

  -- there is memory for the room
  abbrev pub IsRoomy : Inside A → Type 0
  IsRoomy s = (s.room ≤ vec_capacity s.levels) × (s.room < 2 ^ 32)
