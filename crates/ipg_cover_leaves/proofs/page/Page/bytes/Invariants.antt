use Rattle.std.proofs.Common.{◌≡◌, Some, take, map}
use Rattle.ipg_cover_leaves.proofs.page.Page.bytes.Given as goal

-- the cells so far hold these bytes
abbrev pub invariant-loop-at : goal.invariant-loop-at
invariant-loop-at l = map Some l.bytes.items ≡ take l.at l.self.cells.items
