use Rattle.std.proofs.Common.{take}
use Rattle.ipg_table.specs.Rows.{Each, HoldsCase}
use Rattle.ipg_table.specs.Grows.{draft_rows, Grows}
use Rattle.ipg_table.proofs.draft.Draft.case_rows.Given as goal

-- the rows so far are those of what was taken
abbrev pub invariant-loop-case : goal.invariant-loop-case
invariant-loop-case l = Grows (draft_rows l.fn.self) (draft_rows l.self) × Each (HoldsCase (draft_rows l.self)) l.rows.items (take l.case-index l.cases)
