use Rattle.ipg_tree.specs.JsonWalk as walk
use Rattle.ipg_tree.specs.Putting.{Progress}
use Rattle.ipg_tree.proofs.json.put_ends.Given as goal

abbrev pub invariant-loop-left : goal.invariant-loop-left
invariant-loop-left g l =
    Progress (walk.ends l.fn.count) (walk.ends l.left)
    (g.S.Sink.output l.initial.out) (g.S.Sink.faults l.initial.out) (g.S.Sink.output l.out) (g.S.Sink.faults l.out)

abbrev pub decreases-loop-left : goal.decreases-loop-left
decreases-loop-left g l = l.left
