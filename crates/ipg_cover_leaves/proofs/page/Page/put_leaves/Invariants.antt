use Rattle.std.proofs.Common.{◌≡◌, [], length, drop}
use Rattle.ipg_cover_leaves.specs.Bytes.{puts}
use Rattle.ipg_cover_leaves.specs.Page.{Holds}
use Rattle.ipg_cover_leaves.proofs.Places.{Put}
use Rattle.ipg_cover_leaves.proofs.page.Page.put_leaves.Given as goal

abbrev pub invariant-loop-leaf : goal.invariant-loop-leaf
invariant-loop-leaf l =
    (length l.self.cells.items ≡ length l.initial.self.cells.items)
    × (Holds l.initial.self.cells.items l.initial.self.clash []
    → Put l.self.cells.items l.self.clash [] (puts (drop l.leaf-index l.leaves)) (puts l.leaves))
