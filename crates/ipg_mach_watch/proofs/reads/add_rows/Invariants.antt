use Rattle.std.proofs.Common.{◌≡◌, drop}
use Rattle.ipg_core.specs.Environment.{Environment}
use Rattle.ipg_mach_failures.specs.Values as spec
use Rattle.ipg_mach_watch.specs.Agreeing.{rows_read}
use Rattle.ipg_mach_watch.proofs.reads.add_rows.Given as goal

-- the values so far, and what the rows that are left read, give the values of all
abbrev pub invariant-loop-op : goal.invariant-loop-op
invariant-loop-op g l =
    (env : Environment) → g.R.Results.stands l.results env
    → spec.with_values l.fn.values (rows_read env l.rows) ≡ spec.with_values l.values (rows_read env (drop l.op-index l.rows))
