-- What the code's scan answers.
use Rattle.std.specs.Prelude.{ℕ, List, Result, Ok, Err}
use Rattle.ipg_read_scan.specs.declared.due.Due.{Due}
use Rattle.ipg_read_scan.specs.declared.scanning.Step.{Step as Moving}
use Rattle.ipg_read_scan.specs.declared.scanning.Step.TheVariants.{Moved, Lost}
use Rattle.ipg_read_scan.specs.declared.scanning.ScanEnd.{ScanEnd}
use Rattle.ipg_read_scan.specs.declared.scanning.ScanEnd.TheVariants.{Rows, Stuck}
use Rattle.ipg_read_scan.specs.Rowed.{Row, rows_of}
use Rattle.ipg_read_scan.specs.Asked.{Step, lost, moved}

abbrev pub step_of : Moving → List Row → List Due → Step
step_of Moved rows due = moved rows due
step_of Lost rows due = lost

abbrev pub rows_found : ScanEnd → Result (List Row) ℕ
rows_found (Rows rows) = Ok (rows_of rows.items)
rows_found (Stuck n) = Err n
