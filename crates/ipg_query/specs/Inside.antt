-- A walk over a result and all that lies in it.
use Rattle.std.specs.Prelude.{◌≡◌, ℕ, ◌+◌, ◌^◌, ◌<◌, ◌≤◌, List, [], ◌∷◌, ◌++◌, map, reverse, length, vec_capacity}
use Rattle.ipg_core.specs.Tree as tree
use Rattle.ipg_core.specs.Tree.{Kids}
use Rattle.ipg_mach_nodes.specs.declared.kid.Kid.{Kid}
use Rattle.ipg_mach_nodes.specs.Stored.{Stored, Source, StandsKid, StandKids, kid_levels, kids_levels}
use Rattle.ipg_tree_walk.specs.Falls.{steps_by}
use Rattle.ipg_tree_walk.specs.Visits.{Seen, kid_visits, kids_visits, kids_in, place_in, size_in}
use Rattle.ipg_query.specs.declared.inside.Deep.{Deep}
use Rattle.ipg_query.specs.declared.inside.OpenList.{OpenList}
use Rattle.ipg_query.specs.declared.inside.Walk.TheInside.{Inside}
use Rattle.ipg_query.specs.Picked.{Found, found}
use Rattle.ipg_query.specs.Spots.{IsNear, AreNear, IsSpot}

-- a result that lies in a part of so many bytes, and all that lies in it, each before what lies in that
abbrev pub visits_of : ℕ → Found → List Seen
visits_of size x = kid_visits 0 x.at size x.child

-- what a walk comes to is what was seen
pub record IsDeep (src : Source) (st : Stored) (deep : Deep) (one : Seen) : Type 0 where
  pub depth : deep.depth ≡ one.depth
  pub size : deep.size ≡ one.size
  pub spot : IsSpot src st deep.spot (found one.at one.child)

-- ---- levels

-- rows that are left of a list: the place of the input where the part begins that they lie in, and how many bytes it has
pub record Lot : Type 0 where
  pub rows : List Kid
  pub at : ℕ
  pub size : ℕ

abbrev pub lot_of : OpenList → Lot
lot_of level = record { rows = level.rows.now; at = level.at; size = level.size }

-- the levels, the innermost first, and how many there may be
pub record Walked : Type 0 where
  pub levels : List Lot
  pub room : ℕ

abbrev pub walked : Inside → Walked
walked w = record { levels = reverse (map lot_of w.levels.items); room = w.room }

-- there is memory for the room
abbrev pub IsRoomy : Inside → Type 0
IsRoomy w = (w.room ≤ vec_capacity w.levels) × (w.room < 2 ^ 32)

-- the level is the innermost
abbrev pub IsLast : Lot → List Lot → Type 0
IsLast level levels = (around : List Lot) × (levels ≡ level ∷ around)

-- the level stands in the place of the innermost
abbrev pub Replaces : Lot → List Lot → List Lot → Type 0
Replaces level old new = (last : Lot) → (around : List Lot) → old ≡ last ∷ around → new ≡ level ∷ around

-- the innermost was taken away
abbrev pub Leaves : List Lot → List Lot → Type 0
Leaves old new = (last : Lot) → (around : List Lot) → old ≡ last ∷ around → new ≡ around

-- ---- what is left

-- these are what a level has left that has so many around it, and in the room there is a level for each list in them
pub record HasLeft (src : Source) (st : Stored) (room around : ℕ) (level : Lot) (kids : Kids) : Type 0 where
  pub stand : StandKids src st level.at level.rows kids
  pub near : AreNear level.at kids
  pub fits : around + 1 + kids_levels kids ≤ room

-- the levels have these visits left, those of the innermost first
abbrev pub Leave : Source → Stored → ℕ → List Lot → List Seen → Type 0
Leave src st room [] left = left ≡ []
Leave src st room (level ∷ around) left =
    (kids : Kids) × (more : List Seen) × HasLeft src st room (length around) level kids × Leave src st room around more
    × (kids_visits (length around + 1) level.at level.size kids ++ more ≡ left)

-- the level of what lies in a child of a part of `size` bytes that begins at `at`
pub record LotOf (src : Source) (st : Stored) (level : Lot) (at size : ℕ) (one : tree.Kid) : Type 0 where
  pub place : level.at ≡ place_in at one
  pub long : level.size ≡ size_in size one
  pub stand : StandKids src st (place_in at one) level.rows (kids_in one)

-- what going into a row leaves
abbrev pub Entered : Source → Stored → ℕ → List Lot → ℕ → Kid → ℕ → ℕ → List Lot → Type 0
Entered src st room levels at k size new_room new =
    (one : tree.Kid) (more : List Seen) → StandsKid src st at k one → IsNear at one → length levels + kid_levels one ≤ room
    → Leave src st room levels more
    → Leave src st new_room new (kids_visits (length levels + 1) (place_in at one) (size_in size one) (kids_in one) ++ more)

-- ---- how often a walk can go on at most, whatever stands in the store: a number that each step lowers

abbrev pub left_of : Lot → ℕ
left_of level = length level.rows

abbrev pub steps : ℕ → List Lot → ℕ
steps = steps_by left_of
