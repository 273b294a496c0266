use Rattle.std.proofs.Common.{◌≡◌, drop}
use Rattle.ipg_read_syntax.specs.Classes.{classes}
use Rattle.ipg_read_scan.specs.Rowed.{rows_of}
use Rattle.ipg_read_scan.specs.Asked as A
use Rattle.ipg_read_scan.proofs.scanning.scan.Given as goal

abbrev pub invariant-loop-at : goal.invariant-loop-at
invariant-loop-at l = A.rows_then (rows_of l.to.rows.items) (A.run l.at l.to.due (classes (drop l.at l.tokens))) ≡ A.run 0 A.start (classes l.tokens)
