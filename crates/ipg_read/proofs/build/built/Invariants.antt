use Rattle.std.proofs.Common.{◌≡◌, drop}
use Rattle.ipg_read_scan.specs.Rowed.{rows_of}
use Rattle.ipg_read.specs.Built as B
use Rattle.ipg_read.specs.Built.{parts_of}
use Rattle.ipg_read.proofs.build.built.Given as goal

abbrev pub invariant-loop-row : goal.invariant-loop-row
invariant-loop-row l = B.makes (rows_of (drop l.row-index l.rows)) (parts_of l.build) ≡ B.makes (rows_of l.rows) B.blank
