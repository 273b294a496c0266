use Rattle.std.proofs.Common.{take}
use Rattle.ipg_table.specs.Rows.{Each, Stands}
use Rattle.ipg_table.specs.Grows.{draft_rows, Grows}
use Rattle.ipg_table.proofs.tables.name_rows.Given as goal

-- the rows so far are those of what was taken
abbrev pub invariant-loop-name : goal.invariant-loop-name
invariant-loop-name l = Grows (draft_rows l.fn.draft) (draft_rows l.draft) × Each (Stands (draft_rows l.draft).bytes) l.rows.items (take l.name-index l.names)
