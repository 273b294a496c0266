use Rattle.std.proofs.Common.{sym, ap, ◌∙◌, ◌+◌, drop, arith}
use Rattle.std.proofs.lemmas.List.{drop_all}
use Rattle.ipg_mach_failures.specs.Values.{with_values}
use Rattle.ipg_mach_watch.specs.Agreeing.{rows_read, with_read}
use Rattle.ipg_mach_watch.proofs.Reading as reading
use Rattle.ipg_mach_watch.proofs.reads.add_rows.Goals as goal

pub loop-op-preserved : goal.loop-op-preserved
loop-op-preserved g c = λ env stands.
    let rows = c.args.rows.now in
    let here = c.loop-op in
    let added = c.add_read.ensures ∙ ap (with_read here.values) (c.read_by.ensures env stands) in
    here.invariant env stands
    ∙ reading.one_more env here.values rows here.op-index c.op-item.result c.op-item.is c.loop-op-test.true
    ∙ ap (λ v. with_values v (rows_read env (drop (here.op-index + 1) rows))) (sym added)

pub returns : goal.returns
returns g c env stands =
    let rows = c.args.rows.now in
    let here = c.loop-op in
    sym (here.invariant env stands
    ∙ ap (λ l. with_values here.values (rows_read env l)) (drop_all here.op-index rows (omega (arith, c.loop-op-test.false))))
