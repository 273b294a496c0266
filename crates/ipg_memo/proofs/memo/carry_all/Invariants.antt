use Rattle.std.proofs.Common.{take}
use Rattle.ipg_memo.specs.Keyed.{of_rows}
use Rattle.ipg_memo.specs.Moved.{IsMoved}
use Rattle.ipg_memo.proofs.memo.carry_all.Given as goal

abbrev pub invariant-loop-row : goal.invariant-loop-row
invariant-loop-row g l = IsMoved l.from l.to l.with (of_rows (take l.row l.rows.items)) l.new
