use Rattle.std.proofs.Common.{ap, ◌∙◌}
use Rattle.ipg_mach_failures.specs.Values.{with_values}
use Rattle.ipg_mach_watch.specs.Agreeing.{rows_read}
use Rattle.ipg_mach_watch.proofs.Reading as reading
use Rattle.ipg_mach_watch.proofs.reads.add_expr.Goals as goal

pub returns : goal.returns
returns g c env e stands holds =
    let rows = c.ops.ensures ∙ holds.rows.is in
    c.add_rows.ensures env stands
    ∙ ap (λ l. with_values c.args.values.now (rows_read env l)) rows
    ∙ ap (with_values c.args.values.now) (reading.rows_are env e)
