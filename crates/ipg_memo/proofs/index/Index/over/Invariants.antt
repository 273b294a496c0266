use Rattle.ipg_memo.specs.Ways.{IsWhole}
use Rattle.ipg_memo.proofs.index.Index.over.Given as goal

abbrev pub invariant-loop-row : goal.invariant-loop-row
invariant-loop-row g l = IsWhole l.rows.items l.index l.row
