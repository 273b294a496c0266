use Rattle.std.proofs.Common.{◌≡◌, ℕ, ◌+◌, List, length, drop}
use Rattle.ipg_cover_leaves.specs.Bytes.{from_on}
use Rattle.ipg_cover_leaves.specs.Page.{Holds}
use Rattle.ipg_cover_leaves.proofs.Places.{Put}
use Rattle.ipg_cover_leaves.proofs.page.Page.put_all.Given as goal

abbrev pub invariant-loop-byte : goal.invariant-loop-byte
invariant-loop-byte l =
    (l.at ≡ l.from + l.byte-index) × (length l.self.cells.items ≡ length l.initial.self.cells.items)
    × ((all : List (ℕ × ℕ)) → Holds l.initial.self.cells.items l.initial.self.clash all
    → Put l.self.cells.items l.self.clash all (from_on l.at (drop l.byte-index l.bytes)) (from_on l.from l.bytes))
