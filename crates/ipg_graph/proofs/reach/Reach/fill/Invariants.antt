use Rattle.std.proofs.Common.{◌+◌, ◌-◌, ◌*◌, length}
use Rattle.ipg_graph.specs.Marks.{marked}
use Rattle.ipg_graph.specs.Reach.{IsSized, IsSpreading}
use Rattle.ipg_graph.proofs.reach.Reach.fill.Given as goal

abbrev pub invariant-loop-rule : goal.invariant-loop-rule
invariant-loop-rule l = record {
  sized : IsSized l.links.rules l.self;
  spreading : IsSpreading l.links l.start l.seen l.self.marks.items l.self.stack.items;
}

abbrev pub decreases-loop-rule : goal.decreases-loop-rule
decreases-loop-rule l = length l.self.stack.items + 2 * (l.links.rules - marked l.self.marks.items)
