-- The places of a part that the leaves of its tree cover.
use Rattle.std.specs.Prelude.{◌⊎◌, ℕ, ◌+◌, ◌-◌, ◌<◌, ◌≤◌, List, length}
use Rattle.ipg_core.specs.Tree.{Tree, Node, Kid, Sub, Token, Number, Raw, Array, Many, Kids, no_kids, kid}
use Rattle.ipg_core.specs.Touch.{width}
use Rattle.ipg_core.specs.Within.{TreeWithin}
use Rattle.ipg_core.specs.Holds.{TreeHolds}
use Rattle.ipg_cover_leaves.specs.Bytes.{puts}
use Rattle.ipg_cover_leaves.specs.Leaves.{leaves_of}
use Rattle.ipg_cover_leaves.specs.Back.{IsPut, IsBack}
use Rattle.ipg_cover_leaves.specs.Laws.{AreBytes}

-- one of n places from `from` on
pub record IsAmong (from n place : ℕ) : Type 0 where
  pub begun : from ≤ place
  pub ends : place < from + n

abbrev mutual
  -- a leaf of the tree has a byte at a place of the tree's part
  pub TreeCovers : ℕ → Tree → Type 0
  TreeCovers place (Node rule size attrs start end kids) = KidsCover place kids

  -- a leaf that is a child, or lies in one, has a byte at a place of the part that the child lies in
  pub KidCovers : ℕ → Kid → Type 0
  KidCovers place (Sub from to tree) = (from ≤ place) × TreeCovers (place - from) tree
  KidCovers place (Token from to bytes) = IsAmong from (length bytes) place
  KidCovers place (Number from to prim high low) = IsAmong from (width prim) place
  KidCovers place (Raw from to bytes) = IsAmong from (length bytes) place
  KidCovers place (Array sym items) = KidsCover place items
  KidCovers place (Many sym items) = KidsCover place items

  pub KidsCover : ℕ → Kids → Type 0
  KidsCover place no_kids = ⊥
  KidsCover place (kid k ks) = KidCovers place k ⊎ KidsCover place ks

-- the leaves of a tree that holds bytes of an input put a byte at each place that they cover
abbrev pub CoveredIsPut : Type 0
CoveredIsPut = (s : List ℕ) (one : Tree) (place : ℕ) → AreBytes s → TreeHolds s one → TreeCovers place one → IsPut (puts (leaves_of one)) place

-- and at no other
abbrev pub PutIsCovered : Type 0
PutIsCovered = (s : List ℕ) (one : Tree) (place : ℕ) → AreBytes s → TreeHolds s one → IsPut (puts (leaves_of one)) place → TreeCovers place one

-- and where they put a byte at each place, they put that input back
abbrev pub AllPutComesBack : Type 0
AllPutComesBack = (s : List ℕ) (one : Tree) → AreBytes s → TreeHolds s one → TreeWithin (length s) one
    → ((place : ℕ) → place < length s → IsPut (puts (leaves_of one)) place) → IsBack (leaves_of one) (length s) s
