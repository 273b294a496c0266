-- A parsed tree with what it was parsed by and from, and how far a walk over it has come.
use Rattle.std.specs.Prelude.{◌≡◌, ℕ, ◌+◌, ◌^◌, ◌≤◌, Bool, true, false, List, [], ◌∷◌, slice_get, Some}
use Rattle.ipg_core.specs.Tree.{Tree}
use Rattle.ipg_region.specs.declared.region.RunId.{RunId}
use Rattle.ipg_mach_nodes.specs.declared.kid.Node.{Node}
use Rattle.ipg_mach_nodes.specs.Stored.{Stored, Source, StandsTree}
use Rattle.ipg_table.specs.Rows.{Rows}
use Rattle.ipg_tree_walk.specs.declared.parsed.Counts.{Counts}
use Rattle.ipg_tree_walk.specs.declared.parsed.Parsed.TheInside.{Inside}
use Rattle.ipg_tree_walk.specs.Stack.{Stacked}
use Rattle.ipg_tree_walk.specs.Falls.{wide}
use Rattle.ipg_tree_walk.specs.Steps.{steps}
use Rattle.ipg_tree_walk.specs.Visits.{Seen, visits}
use Rattle.ipg_tree_walk.specs.Left.{Leave}

-- the tables, the input, what is stored, the root, and what was counted
pub record Parse : Type 0 where
  pub tables : Rows
  pub input : List ℕ
  pub store : Stored
  pub root : RunId
  pub counts : Counts

-- a parse, and a walk over it: its levels, and whether all of it is ahead
pub record Walked : Type 0 where
  pub parse : Parse
  pub stack : Stacked
  pub is_ahead : Bool

module _ {A : Type 0} where
  abbrev pub walked : Inside A → Walked
  walked p = record {
    parse = record { tables = p.tables.now; input = p.input.now; store = p.store; root = p.root; counts = p.counts };
    stack = p.stack;
    is_ahead = p.is_ahead;
  }

  -- there is room for the levels of the root
  abbrev pub IsRoomy : Inside A → Type 0
  IsRoomy p = (node : Node) → slice_get p.store.nodes p.root.place ≡ Some (node ∷ []) → node.levels ≤ p.stack.room

-- these visits are left, where all is ahead or where it isn't
abbrev pub LeftBy : Bool → Source → Walked → List Seen → Type 0
LeftBy true src p left = (one : Tree) × StandsTree src p.parse.store 0 p.parse.root one × (visits one ≡ left)
LeftBy false src p left = Leave src p.parse.store p.stack.room p.stack.levels left

-- the walk has these visits left
abbrev pub Left : Source → Walked → List Seen → Type 0
Left src p left = LeftBy p.is_ahead src p left

-- the walk has all visits of each tree left that stands at the root
abbrev pub AllLeft : Walked → Type 0
AllLeft p = (src : Source) → (one : Tree) → StandsTree src p.parse.store 0 p.parse.root one → Left src p (visits one)

abbrev pub steps_by : Bool → Walked → ℕ
steps_by true p = wide ^ (p.stack.room + 1)
steps_by false p = steps p.stack.room p.stack.levels

-- so many steps at most are left, whatever stands at the root
abbrev pub steps_left : Walked → ℕ
steps_left p = steps_by p.is_ahead p
