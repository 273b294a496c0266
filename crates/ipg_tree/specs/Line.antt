-- The line of each visit of a tree.
use Rattle.std.specs.Prelude.{◌≡◌, ℕ, ◌+◌, List, [], ◌∷◌, flat_map, codes, slice_get, Some}
use Rattle.ipg_core.specs.Grammar.{Grammar}
use Rattle.ipg_core.specs.Lines.{node_line, leaf_line, items_line, hex, short_hex, primitive_name, number_words}
use Rattle.ipg_core.specs.Touch.{tree_ends}
use Rattle.ipg_core.specs.Tree as tree
use Rattle.ipg_core.specs.Tree.{Tree, Kid, Sub, Token, Number, Raw, Array, Many, rule_of, attrs_of}
use Rattle.ipg_mach_nodes.specs.declared.kid.Node.{Node}
use Rattle.ipg_mach_nodes.specs.Stored.{Stored}
use Rattle.ipg_tree_walk.specs.Visits.{Seen, size_of}

-- the node says what the tree says, but for its children
pub record Says (st : Stored) (node : Node) (one : Tree) : Type 0 where
  pub rule : node.head.rule ≡ rule_of one
  pub size : node.head.size ≡ size_of one
  pub ends : record { start = node.head.start; end = node.head.end } ≡ tree_ends one
  pub attrs : slice_get st.attrs node.attrs.place ≡ Some (attrs_of one)

-- the line of a tree alone, whose part begins at `at`
abbrev pub head_line : Grammar → ℕ → ℕ → Tree → List ℕ
head_line g depth at (tree.Node rule size attrs start end kids) = node_line g depth at rule size start end attrs

-- the line of a child alone
abbrev pub child_line : Grammar → ℕ → ℕ → Kid → List ℕ
child_line g depth at (Sub from to sub) = head_line g depth (at + from) sub
child_line g depth at (Token from to bytes) = leaf_line depth at (codes "tok") from to (hex bytes ∷ [])
child_line g depth at (Number from to prim high low) = leaf_line depth at (primitive_name prim) from to (number_words prim high low)
child_line g depth at (Raw from to bytes) = leaf_line depth at (codes "Bytes") from to (short_hex bytes ∷ [])
child_line g depth at (Array sym items) = items_line g depth (codes "for") sym items
child_line g depth at (Many sym items) = items_line g depth (codes "many") sym items

abbrev pub line_of : Grammar → Seen → List ℕ
line_of g one = child_line g one.depth one.at one.child

-- the lines of visits, one after another
abbrev pub lines_of : Grammar → List Seen → List ℕ
lines_of g seen = flat_map (line_of g) seen
