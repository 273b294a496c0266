-- What the rows of a parsed tree are made from.
use Rattle.std.specs.Prelude.{◌≡◌, slice_get, Some}
use Rattle.ipg_core.specs.Touch.{tree_ends}
use Rattle.ipg_core.specs.Tree.{Tree, rule_of, attrs_of}
use Rattle.ipg_mach_nodes.specs.declared.kid.Node.{Node}
use Rattle.ipg_mach_nodes.specs.declared.kid.Kid.{Kid}
use Rattle.ipg_mach_nodes.specs.declared.kid.Kid.TheVariants as row
use Rattle.ipg_mach_nodes.specs.Stored.{Stored, Source, StandsTree}
use Rattle.ipg_tree_walk.specs.Parse.{Parse}
use Rattle.ipg_tree_walk.specs.Visits.{size_of}

-- the symbols and the input of the parse are the source's
pub record IsSource (parse : Parse) (src : Source) : Type 0 where
  pub syms : src.syms ≡ parse.tables.syms
  pub input : src.input ≡ parse.input

-- the tree stands at the root
pub record IsTree (parse : Parse) (src : Source) (one : Tree) : Type 0 where
  pub source : IsSource parse src
  pub stands : StandsTree src parse.store 0 parse.root one

-- the node says what the tree says, but for its children
pub record Says (st : Stored) (node : Node) (one : Tree) : Type 0 where
  pub rule : node.head.rule ≡ rule_of one
  pub size : node.head.size ≡ size_of one
  pub ends : record { start = node.head.start; end = node.head.end } ≡ tree_ends one
  pub attrs : slice_get st.attrs node.attrs.place ≡ Some (attrs_of one)

-- a row of a child that isn't a node
abbrev pub IsLeafRow : Kid → Type 0
IsLeafRow (row.Node id from to) = ⊥
IsLeafRow (row.Text n from to) = Unit {0}
IsLeafRow (row.Number prim from to high low) = Unit {0}
IsLeafRow (row.Raw from to) = Unit {0}
IsLeafRow (row.Array n items) = Unit {0}
IsLeafRow (row.Many n items) = Unit {0}
