use Rattle.std.proofs.Common.{◌≡◌, drop}
use Rattle.ipg_read_scan.specs.Rowed.{rows_of}
use Rattle.ipg_read.specs.Counted as C
use Rattle.ipg_read.specs.Counted.{counts_of}
use Rattle.ipg_read.proofs.count.first_over.Given as goal

abbrev pub invariant-loop-row : goal.invariant-loop-row
invariant-loop-row l = C.notes (rows_of (drop l.row-index l.rows)) (counts_of l.count) ≡ C.notes (rows_of l.rows) C.nothing
