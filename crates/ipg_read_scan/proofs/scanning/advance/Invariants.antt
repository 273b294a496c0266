use Rattle.std.proofs.Common.{◌≡◌, length}
use Rattle.ipg_read_scan.specs.Lexemes.{tok_of}
use Rattle.ipg_read_scan.specs.Rowed.{rows_of}
use Rattle.ipg_read_scan.specs.Asked as A
use Rattle.ipg_read_scan.proofs.scanning.advance.Given as goal

abbrev pub decreases-loop-entry : goal.decreases-loop-entry
decreases-loop-entry l = length l.to.due

abbrev pub invariant-loop-entry : goal.invariant-loop-entry
invariant-loop-entry l =
    A.after_rows (rows_of l.to.rows.items) (A.advance l.at (tok_of l.token) l.to.due)
    ≡ A.after_rows (rows_of l.initial.to.rows.items) (A.advance l.at (tok_of l.token) l.initial.to.due)
