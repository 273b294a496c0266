-- A tree as rows: one for each child that a walk visits, and behind that of a node one for each of its attributes.
use Rattle.std.specs.Prelude.{ℕ, ◌+◌, List, [], ◌∷◌, flat_map, map, ℤ, pos}
use Rattle.ipg_core.specs.declared.grammar.Primitive.{Primitive}
use Rattle.ipg_core.specs.declared.grammar.Sym.{Sym}
use Rattle.ipg_core.specs.declared.grammar.Sym.TheVariants.{Text, Prim, Rule}
use Rattle.ipg_core.specs.Grammar.{primitive_number}
use Rattle.ipg_core.specs.Tree as tree
use Rattle.ipg_core.specs.Tree.{Tree, Kid, Sub, Token, Number, Raw, Array, Many}
use Rattle.ipg_tree_walk.specs.Visits.{Seen, visits}
use Rattle.ipg_tree_rows.specs.declared.row.TreeRow.{TreeRow}

-- ---- numbers for kinds and names

-- whose number a name is: 0 a rule's, 1 a primitive's, 2 none, as of a terminal; and the number
abbrev pub name_of : Sym → ℕ × ℕ
name_of (Rule r) = (0, r)
name_of (Prim prim) = (1, primitive_number prim)
name_of (Text bytes) = (2, 0)

-- ---- rows

-- a row with an interval of the input and nothing else
abbrev pub plain : (kind : ℕ) → ℕ × ℕ → (depth from to : ℕ) → TreeRow
plain kind name depth from to = record {
  kind = kind;
  of = name.0;
  name = name.1;
  high = 0;
  low = 0;
  depth = depth;
  from = from;
  to = to;
  start = 0;
  end = 0;
  value = pos 0;
}

abbrev pub attr_row : ℕ → ℕ × ℤ → TreeRow
attr_row depth attr = record (plain 1 (3, attr.0) depth 0 0) { value = attr.1 }

abbrev pub number_row : ℕ → ℕ → ℕ → Primitive → ℕ → ℕ → TreeRow
number_row depth from to prim high low = record (plain 3 (1, primitive_number prim) depth from to) { high = high; low = low }

abbrev pub node_row : (depth at rule size start end : ℕ) → TreeRow
node_row depth at rule size start end = record (plain 0 (0, rule) depth at (at + size)) { start = at + start; end = at + end }

-- a tree alone, whose part begins at `at`: its row, and one for each attribute
abbrev pub head_rows : ℕ → ℕ → Tree → List TreeRow
head_rows depth at (tree.Node rule size attrs start end kids) = node_row depth at rule size start end ∷ map (attr_row depth) attrs

-- a child alone, in a part of `size` bytes that begins at `at`
abbrev pub child_rows : ℕ → ℕ → ℕ → Kid → List TreeRow
child_rows depth at size (Sub from to sub) = head_rows depth (at + from) sub
child_rows depth at size (Token from to bytes) = plain 2 (2, 0) depth (at + from) (at + to) ∷ []
child_rows depth at size (Number from to prim high low) = number_row depth (at + from) (at + to) prim high low ∷ []
child_rows depth at size (Raw from to bytes) = plain 4 (1, 7) depth (at + from) (at + to) ∷ []
child_rows depth at size (Array sym items) = plain 5 (name_of sym) depth at (at + size) ∷ []
child_rows depth at size (Many sym items) = plain 6 (name_of sym) depth at (at + size) ∷ []

abbrev pub rows_seen : Seen → List TreeRow
rows_seen one = child_rows one.depth one.at one.size one.child

-- the rows of a tree, in the order of a walk: each before those of what lies in it
abbrev pub rows_of : Tree → List TreeRow
rows_of one = flat_map rows_seen (visits one)
