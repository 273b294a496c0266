use Rattle.std.proofs.Common.{◌≡◌, ◌++◌}
use Rattle.ipg_order.specs.Providers as spec
use Rattle.ipg_order.proofs.providers.add_row.Given as goal

-- those so far and those of what is left are all
abbrev pub invariant-loop-column : goal.invariant-loop-column
invariant-loop-column l = l.needs.items ≡ l.fn.needs.items ++ spec.row_needs l.flags l.row l.number l.column
