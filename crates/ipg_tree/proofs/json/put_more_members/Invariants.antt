use Rattle.std.proofs.Common.{drop, map}
use Rattle.ipg_core.specs.Grammar.{Grammar}
use Rattle.ipg_table.specs.Rows.{StandFor}
use Rattle.ipg_tree.specs.Json as spec
use Rattle.ipg_tree.specs.JsonWalk as walk
use Rattle.ipg_tree.specs.Putting.{Progress}
use Rattle.ipg_tree.proofs.json.put_more_members.Given as goal

abbrev pub invariant-loop-attr : goal.invariant-loop-attr
invariant-loop-attr g l =
    (grammar : Grammar) → StandFor l.tables grammar
    → Progress (walk.led (map (spec.member grammar) l.attrs)) (walk.led (map (spec.member grammar) (drop l.attr-index l.attrs)))
    (g.S.Sink.output l.initial.out) (g.S.Sink.faults l.initial.out) (g.S.Sink.output l.out) (g.S.Sink.faults l.out)
