use Rattle.std.proofs.Common.{◌-◌, length}
use Rattle.ipg_graph.specs.Reach.{IsSized, IsMarking}
use Rattle.ipg_graph.proofs.reach.Reach.mark_callers.Given as goal

abbrev pub invariant-loop-edge : goal.invariant-loop-edge
invariant-loop-edge l = record {
  sized : IsSized l.links.rules l.self;
  marking : IsMarking l.links l.start l.seen l.initial.self.marks.items l.self.marks.items l.initial.self.stack.items l.self.stack.items l.rule l.edge;
}

abbrev pub decreases-loop-edge : goal.decreases-loop-edge
decreases-loop-edge l = length l.links.callers - l.edge
