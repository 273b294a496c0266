-- What `view` shows of the bytes that no leaf has, and what `rebuild` puts back, are one thing.
use Rattle.std.specs.Prelude.{ℕ, List, length, MatchBool}
use Rattle.ipg_core.specs.Tree.{Tree}
use Rattle.ipg_core.specs.Holds.{TreeHolds}
use Rattle.ipg_core.specs.Within.{TreeWithin}
use Rattle.ipg_tree_walk.specs.Visits.{visits}
use Rattle.ipg_tree_view.specs.Bare.{none_has}
use Rattle.ipg_cover_leaves.specs.Back.{IsPut}
use Rattle.ipg_cover_leaves.specs.Bytes.{puts}
use Rattle.ipg_cover_leaves.specs.Laws.{AreBytes}
use Rattle.ipg_cover_leaves.specs.Leaves.{leaves_of}

-- a place is in a gap of `view` exactly where the leaves put no byte back
abbrev pub BareIsNotPut : Type 0
BareIsNotPut = (s : List ℕ) (one : Tree) (place : ℕ) → AreBytes s → TreeHolds s one → TreeWithin (length s) one
    → MatchBool (none_has place (visits one)) (IsPut (puts (leaves_of one)) place → ⊥) (IsPut (puts (leaves_of one)) place)
