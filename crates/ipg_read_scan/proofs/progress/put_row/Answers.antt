use Rattle.std.proofs.Common.{[], ◌∷◌, ◌∙◌, ap}
use Rattle.ipg_read_scan.specs.Rowed.{rows_of}
use Rattle.ipg_read_scan.proofs.Rows.{rows_append}
use Rattle.ipg_read_scan.proofs.progress.put_row.Goals as goal

pub returns : goal.returns
returns c = ap rows_of c.in_ok-push.ensures.items ∙ rows_append c.args.rows.now.items (c.args.row ∷ [])
