use Rattle.std.proofs.Common.{List, drop}
use Rattle.ipg_query.specs.Hits.{IsHit}
use Rattle.ipg_query.specs.Picked.{Pick}
use Rattle.ipg_table.specs.Rows.{Each}
use Rattle.ipg_app_tree.proofs.Hits.{Going}
use Rattle.ipg_app_tree.proofs.querying.put_hits.Given as goal

abbrev pub invariant-loop-hit : goal.invariant-loop-hit
invariant-loop-hit g l =
    (picks : List Pick) → Each IsHit l.hits picks
    → Going picks (g.S.Sink.output l.initial.out) (g.S.Sink.faults l.initial.out) (drop l.hit-index l.hits)
    (g.S.Sink.output l.out) (g.S.Sink.faults l.out)
