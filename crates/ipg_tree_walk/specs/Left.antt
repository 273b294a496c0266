-- What a walk has left to visit, by its levels.
use Rattle.std.specs.Prelude.{◌≡◌, ℕ, ◌+◌, ◌*◌, ◌^◌, ◌<◌, ◌≤◌, List, [], ◌∷◌, ◌++◌, drop, length, slice_get, Option, Some, None}
use Rattle.ipg_core.specs.Tree as tree
use Rattle.ipg_core.specs.Tree.{Tree, Kids, no_kids}
use Rattle.ipg_region.specs.declared.region.RunId.{RunId}
use Rattle.ipg_mach_nodes.specs.declared.kid.Kid.{Kid}
use Rattle.ipg_mach_nodes.specs.declared.kid.Kid.TheVariants as row
use Rattle.ipg_mach_nodes.specs.declared.kid.Node.{Node}
use Rattle.ipg_mach_nodes.specs.Stored.{Stored, Source, StandsTree, StandsKid, StandKids, kid_levels, kids_levels}
use Rattle.ipg_tree_walk.specs.declared.stack.Level.{Level}
use Rattle.ipg_tree_walk.specs.declared.walk.Visit.{Visit}
use Rattle.ipg_tree_walk.specs.declared.walk.Taken.{Taken}
use Rattle.ipg_tree_walk.specs.Visits.{Seen, kids_visits, kids_in, place_in, size_in, from_of, end_in}

-- it is the node at this place, where there is one
abbrev pub NodeAt : Stored → RunId → Option Node → Type 0
NodeAt st id node = (one : Node) → slice_get st.nodes id.place ≡ Some (one ∷ []) → node ≡ Some one

-- it is the node that the row names
abbrev pub NodeOf : Stored → Kid → Option Node → Type 0
NodeOf st k node = (id : RunId) → (from : ℕ) → (to : ℕ) → k ≡ row.Node id from to → NodeAt st id node

-- the tree stands at the place of this node
pub record StandsNode (src : Source) (st : Stored) (at : ℕ) (node : Option Node) (one : Tree) : Type 0 where
  pub id : RunId
  pub is_at : NodeAt st id node
  pub stands : StandsTree src st at id one

-- the visit says what was seen
pub record Shows (src : Source) (st : Stored) (visit : Visit) (one : Seen) : Type 0 where
  pub depth : visit.depth ≡ one.depth
  pub from : visit.from ≡ one.at + from_of one.child
  pub to : visit.to ≡ one.at + end_in one.size one.child
  -- each place of its part is a number of 64 bits
  pub small : visit.from + 2 ^ 32 ≤ 2 ^ 64
  pub stands : StandsKid src st one.at visit.kid one.child
  pub node : NodeOf st visit.kid visit.node

-- the rows that are left of a list, from the next one on; none are where there is no list
abbrev pub RowsLeft : Stored → Option RunId → ℕ → List Kid → Type 0
RowsLeft st None next rows = rows ≡ []
RowsLeft st (Some list) next rows = (all : List Kid) × (slice_get st.kids list.place ≡ Some all) × (rows ≡ drop next all)

-- these are what the level has left
pub record Holds (src : Source) (st : Stored) (level : Level) (kids : Kids) : Type 0 where
  pub rows : List Kid
  pub are_rows : RowsLeft st level.list level.next rows
  pub stand : StandKids src st level.at rows kids

-- the rows begin with this one, and what is left of a list from here on are the others
abbrev pub BeginsRows : Stored → Kid → Option RunId → ℕ → List Kid → Type 0
BeginsRows st k list next rows = (more : List Kid) × (rows ≡ k ∷ more) × RowsLeft st list next more

-- the row is the next in the level, and the rest is what the level is behind it
pub record Takes (st : Stored) (level : Level) (taken : Taken) : Type 0 where
  pub rows : (rows : List Kid) → RowsLeft st level.list level.next rows → BeginsRows st taken.kid taken.rest.list taken.rest.next rows
  pub at : taken.rest.at ≡ level.at
  pub size : taken.rest.size ≡ level.size
  pub next : taken.rest.next ≡ level.next + 1
  pub counts : level.next + 1 < 2 ^ 64

-- the same, where the level's list has these rows
pub record Follows (level : Level) (rows : List Kid) (taken : Taken) : Type 0 where
  pub kid : slice_get rows level.next ≡ Some taken.kid
  pub at : taken.rest.at ≡ level.at
  pub size : taken.rest.size ≡ level.size
  pub next : taken.rest.next ≡ level.next + 1
  pub more : level.next + 1 < length rows → taken.rest.list ≡ level.list
  pub none : length rows ≤ level.next + 1 → taken.rest.list ≡ None
  pub counts : level.next + 1 < 2 ^ 64

abbrev pub TakesIf : Stored → Level → Option Taken → Type 0
TakesIf st level None = (rows : List Kid) → RowsLeft st level.list level.next rows → rows ≡ []
TakesIf st level (Some taken) = Takes st level taken

-- these are what a level has left that has so many around it, and in the room there is a level for each list in them
pub record IsOpen (src : Source) (st : Stored) (room around : ℕ) (level : Level) (kids : Kids) : Type 0 where
  pub holds : Holds src st level kids
  pub fits : around + 1 + kids_levels kids ≤ room
  pub near : level.at ≤ around * 2 ^ 32

-- the levels have these visits left, those of the innermost first
abbrev pub Leave : Source → Stored → ℕ → List Level → List Seen → Type 0
Leave src st room [] left = left ≡ []
Leave src st room (level ∷ around) left =
    (kids : Kids) × (more : List Seen) × IsOpen src st room (length around) level kids × Leave src st room around more
    × (kids_visits (length around + 1) level.at level.size kids ++ more ≡ left)

-- the level of what lies in a child of a part of `size` bytes that begins at `at`
pub record Enters (src : Source) (st : Stored) (level : Level) (at size : ℕ) (one : tree.Kid) : Type 0 where
  pub place : level.at ≡ place_in at one
  pub long : level.size ≡ size_in size one
  pub holds : Holds src st level (kids_in one)
  pub deeper : kids_levels (kids_in one) + 1 ≤ kid_levels one

abbrev pub EntersIf : Source → Stored → Option Level → ℕ → ℕ → tree.Kid → Type 0
EntersIf src st None at size one = kids_in one ≡ no_kids
EntersIf src st (Some level) at size one = Enters src st level at size one
