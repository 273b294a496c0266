-- A place has one tree, and keeps it as the store grows.
use Rattle.std.specs.Prelude.{◌≡◌, ℕ, ℤ, List, ◌++◌}
use Rattle.ipg_core.specs.Tree as tree
use Rattle.ipg_core.specs.Tree.{Tree, Kids}
use Rattle.ipg_region.specs.declared.region.RunId.{RunId}
use Rattle.ipg_mach_nodes.specs.declared.kid.Kid.{Kid}
use Rattle.ipg_mach_nodes.specs.declared.kid.Node.{Node}
use Rattle.ipg_mach_nodes.specs.Stored.{Stored, Source, StandsTree, StandsKid, StandKids}

-- a node stands for one tree, a row for one child, a list for one list of children
abbrev pub OneTree : Type 0
OneTree = (src : Source) (st : Stored) (at : ℕ) (id : RunId) (one other : Tree) → StandsTree src st at id one → StandsTree src st at id other → one ≡ other

abbrev pub OneKid : Type 0
OneKid = (src : Source) (st : Stored) (at : ℕ) (k : Kid) (one other : tree.Kid) → StandsKid src st at k one → StandsKid src st at k other → one ≡ other

abbrev pub OneList : Type 0
OneList = (src : Source) (st : Stored) (at : ℕ) (ks : List Kid) (one other : Kids) → StandKids src st at ks one → StandKids src st at ks other → one ≡ other

-- the second store begins with what the first holds
pub record Grows (st more : Stored) : Type 0 where
  pub nodes : (rest : List (List Node)) × (st.nodes ++ rest ≡ more.nodes)
  pub kids : (rest : List (List Kid)) × (st.kids ++ rest ≡ more.kids)
  pub attrs : (rest : List (List (ℕ × ℤ))) × (st.attrs ++ rest ≡ more.attrs)

-- what stands in a store stands in one that grew out of it
abbrev pub TreesStay : Type 0
TreesStay = (src : Source) (st more : Stored) (at : ℕ) (id : RunId) (one : Tree) → Grows st more → StandsTree src st at id one → StandsTree src more at id one

abbrev pub KidsStay : Type 0
KidsStay = (src : Source) (st more : Stored) (at : ℕ) (k : Kid) (one : tree.Kid) → Grows st more → StandsKid src st at k one → StandsKid src more at k one
