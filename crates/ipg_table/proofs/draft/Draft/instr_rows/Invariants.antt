use Rattle.std.proofs.Common.{take}
use Rattle.ipg_table.specs.Rows.{Each, HoldsInstr}
use Rattle.ipg_table.specs.Grows.{draft_rows, Grows}
use Rattle.ipg_table.proofs.draft.Draft.instr_rows.Given as goal

-- the rows so far are those of what was taken
abbrev pub invariant-loop-term : goal.invariant-loop-term
invariant-loop-term l = Grows (draft_rows l.fn.self) (draft_rows l.self) × Each (HoldsInstr (draft_rows l.self) l.terms) l.rows.items
    (take l.term-index l.order)
