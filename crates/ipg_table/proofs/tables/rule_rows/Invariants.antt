use Rattle.std.proofs.Common.{take}
use Rattle.ipg_table.specs.Rows.{Each, HoldsRule}
use Rattle.ipg_table.specs.Grows.{draft_rows, Grows}
use Rattle.ipg_table.proofs.tables.rule_rows.Given as goal

-- the rows so far are those of what was taken
abbrev pub invariant-loop-rule : goal.invariant-loop-rule
invariant-loop-rule l = Grows (draft_rows l.fn.draft) (draft_rows l.draft) × Each (HoldsRule (draft_rows l.draft)) l.rows.items (take l.rule-index l.rules)
