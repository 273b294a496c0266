use Rattle.std.proofs.Common.{take}
use Rattle.ipg_table.specs.Rows.{Each, HoldsAlt}
use Rattle.ipg_table.specs.Grows.{draft_rows, Grows}
use Rattle.ipg_table.proofs.draft.Draft.alt_rows.Given as goal

-- the rows so far are those of what was taken
abbrev pub invariant-loop-alt : goal.invariant-loop-alt
invariant-loop-alt l = Grows (draft_rows l.fn.self) (draft_rows l.self) × Each (HoldsAlt (draft_rows l.self)) l.rows.items (take l.alt-index l.alts)
