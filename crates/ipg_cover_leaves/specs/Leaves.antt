-- The leaves of a tree, in the order of a walk over it.
use Rattle.std.specs.Prelude.{◌≡◌, ℕ, ◌+◌, ◌^◌, ◌≤◌, List, [], ◌∷◌, length, pos}
use Rattle.std.specs.List.{flat_map}
use Rattle.ipg_core.specs.Tree as tree
use Rattle.ipg_core.specs.Tree.{Tree, Kid}
use Rattle.ipg_core.specs.Within.{TreeWithin}
use Rattle.ipg_mach_nodes.specs.Stored.{Source, StandsTree}
use Rattle.ipg_tree_walk.specs.Parse.{Parse}
use Rattle.ipg_tree_walk.specs.Visits.{Seen, visits}
use Rattle.ipg_cover_leaves.specs.declared.leaf.Leaf.{Leaf}
use Rattle.ipg_cover_leaves.specs.declared.leaf.Leaf.TheVariants.{Text, Number, Raw}

-- a child that is a leaf, in a part that begins at `at`
abbrev pub leaf_in : ℕ → Kid → List Leaf
leaf_in at (tree.Sub from to sub) = []
leaf_in at (tree.Token from to bytes) = Text (at + from) bytes ∷ []
leaf_in at (tree.Number from to prim high low) = Number prim (at + from) (pos high) (pos low) ∷ []
leaf_in at (tree.Raw from to bytes) = Raw (at + from) bytes ∷ []
leaf_in at (tree.Array sym items) = []
leaf_in at (tree.Many sym items) = []

abbrev pub leaves_seen : List Seen → List Leaf
leaves_seen seen = flat_map (λ one. leaf_in one.at one.child) seen

-- all leaves of a tree: those among its visits
abbrev pub leaves_of : Tree → List Leaf
leaves_of one = leaves_seen (visits one)

-- the symbols and the input of the parse are the source's
pub record IsSource (parse : Parse) (src : Source) : Type 0 where
  pub syms : src.syms ≡ parse.tables.syms
  pub input : src.input ≡ parse.input

-- the tree stands at the root, and within the input, which has at most 2^30 bytes
pub record IsTree (parse : Parse) (src : Source) (one : Tree) : Type 0 where
  pub source : IsSource parse src
  pub stands : StandsTree src parse.store 0 parse.root one
  pub within : TreeWithin (length parse.input) one
  pub small : length parse.input ≤ 2 ^ 30
