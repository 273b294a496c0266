-- What a store of nodes holds, and which tree of the meaning stands at a place of it.
use Rattle.std.specs.Prelude.{◌≡◌, ℕ, ◌+◌, ◌≤◌, List, [], ◌∷◌, ◌++◌, map, take, length, max, slice_get, Some, ℤ}
use Rattle.ipg_core.specs.declared.grammar.Sym.{Sym}
use Rattle.ipg_core.specs.declared.grammar.Sym.TheVariants.{Text}
use Rattle.ipg_core.specs.Part.{part}
use Rattle.ipg_core.specs.Tree as tree
use Rattle.ipg_core.specs.Tree.{Tree, Kids, no_kids, kid}
use Rattle.ipg_region.specs.declared.region.RunId.{RunId}
use Rattle.ipg_mach_nodes.specs.declared.kid.Kid.{Kid}
use Rattle.ipg_mach_nodes.specs.declared.kid.Kid.TheVariants as row
use Rattle.ipg_mach_nodes.specs.declared.kid.Node.{Node}
use Rattle.ipg_mach_nodes.specs.declared.kid.Head.{Head}
use Rattle.ipg_mach_nodes.specs.declared.store.Mark.{Mark}

-- nodes, each a run of its own; lists of children and of items; lists of attributes with their values
pub record Stored : Type 0 where
  pub nodes : List (List Node)
  pub kids : List (List Kid)
  pub attrs : List (List (ℕ × ℤ))

-- nodes, each as a run of its own
abbrev pub each : List Node → List (List Node)
each nodes = map (λ node. node ∷ []) nodes

abbrev pub nothing : Stored
nothing = record { nodes = []; kids = []; attrs = [] }

-- one list more, at the end
abbrev pub with_list : Stored → List Kid → Stored
with_list st list = record st { kids = st.kids ++ list ∷ [] }

-- one node more, with its attributes and its children
abbrev pub with_node : Stored → Head → ℕ → List (ℕ × ℤ) → List Kid → Stored
with_node st head levels attrs kids = record {
  nodes = st.nodes ++ (record { head = head; levels = levels; attrs = record { place = length st.attrs }; kids = record { place = length st.kids } } ∷ []) ∷ [];
  kids = st.kids ++ kids ∷ [];
  attrs = st.attrs ++ attrs ∷ [];
}

-- what was stored before the mark alone
abbrev pub before : Stored → Mark → Stored
before st mark = record { nodes = take mark.nodes.place st.nodes; kids = take mark.kids.place st.kids; attrs = take mark.attrs.place st.attrs }

-- the mark is one of the store, or of what it was before
pub record IsMark (st : Stored) (mark : Mark) : Type 0 where
  pub nodes : mark.nodes.place ≤ length st.nodes
  pub kids : mark.kids.place ≤ length st.kids
  pub attrs : mark.attrs.place ≤ length st.attrs

-- the end of the store
pub record IsEnd (st : Stored) (mark : Mark) : Type 0 where
  pub nodes : mark.nodes.place ≡ length st.nodes
  pub kids : mark.kids.place ≡ length st.kids
  pub attrs : mark.attrs.place ≡ length st.attrs

-- ---- trees that stand in it

-- what all trees of one parse share: the symbols by their numbers, and the input
pub record Source : Type 0 where
  pub syms : List Sym
  pub input : List ℕ

-- how many lists of children and of items lie within one another at most in a tree, in a child, in children
abbrev mutual
  pub tree_levels : Tree → ℕ
  tree_levels (tree.Node rule size attrs start end kids) = kids_levels kids + 1

  pub kid_levels : tree.Kid → ℕ
  kid_levels (tree.Sub from to sub) = tree_levels sub
  kid_levels (tree.Token from to bytes) = 0
  kid_levels (tree.Number from to prim high low) = 0
  kid_levels (tree.Raw from to bytes) = 0
  kid_levels (tree.Array one items) = kids_levels items + 1
  kid_levels (tree.Many one items) = kids_levels items + 1

  pub kids_levels : Kids → ℕ
  kids_levels no_kids = 0
  kids_levels (kid one more) = max (kid_levels one) (kids_levels more)

-- the node at a place has this head, room for these levels, these attributes and these children
pub record HasNode (st : Stored) (id : RunId) (head : Head) (levels : ℕ) (attrs : List (ℕ × ℤ)) (list : List Kid) : Type 0 where
  pub node : Node
  pub is_node : slice_get st.nodes id.place ≡ Some (node ∷ [])
  pub is_head : node.head ≡ head
  pub are_levels : levels ≤ node.levels
  pub are_attrs : slice_get st.attrs node.attrs.place ≡ Some attrs
  pub are_kids : slice_get st.kids node.kids.place ≡ Some list

abbrev mutual
  -- the tree stands at a node whose part begins at the place `at` of the input
  pub StandsTree : Source → Stored → ℕ → RunId → Tree → Type 0
  StandsTree src st at id (tree.Node rule size attrs start end kids) =
      (list : List Kid) × HasNode st id (record { rule = rule; size = size; start = start; end = end }) (kids_levels kids + 1) attrs list
      × StandKids src st at list kids

  -- the child stands in a row, in a part that begins there
  pub StandsKid : Source → Stored → ℕ → Kid → tree.Kid → Type 0
  StandsKid src st at k (tree.Sub from to sub) = (id : RunId) × (k ≡ row.Node id from to) × StandsTree src st (at + from) id sub
  StandsKid src st at k (tree.Token from to bytes) = (n : ℕ) × (k ≡ row.Text n from to) × (slice_get src.syms n ≡ Some (Text bytes))
  StandsKid src st at k (tree.Number from to prim high low) = k ≡ row.Number prim from to high low
  StandsKid src st at k (tree.Raw from to bytes) = (k ≡ row.Raw from to) × (part src.input (at + from) (at + to) ≡ bytes)
  StandsKid src st at k (tree.Array one items) =
      (n : ℕ) × (run : RunId) × (list : List Kid) × (k ≡ row.Array n run) × (slice_get src.syms n ≡ Some one)
      × (slice_get st.kids run.place ≡ Some list) × StandKids src st at list items
  StandsKid src st at k (tree.Many one items) =
      (n : ℕ) × (run : RunId) × (list : List Kid) × (k ≡ row.Many n run) × (slice_get src.syms n ≡ Some one)
      × (slice_get st.kids run.place ≡ Some list) × StandKids src st at list items

  -- one by one
  pub StandKids : Source → Stored → ℕ → List Kid → Kids → Type 0
  StandKids src st at [] no_kids = Unit {0}
  StandKids src st at (k ∷ ks) (kid one more) = StandsKid src st at k one × StandKids src st at ks more
  StandKids src st at [] (kid one more) = ⊥
  StandKids src st at (k ∷ ks) no_kids = ⊥
