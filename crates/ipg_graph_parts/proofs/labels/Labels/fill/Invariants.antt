use Rattle.std.proofs.Common.{None}
use Rattle.ipg_graph_parts.specs.Labels.{field_of, work, IsSpreading, Keeps}
use Rattle.ipg_graph_parts.proofs.labels.Labels.fill.Given as goal

abbrev pub invariant-loop-rule : goal.invariant-loop-rule
invariant-loop-rule l = record {
  spreading : IsSpreading (field_of l.search) l.self.of.items l.self.waiting.items l.search.root None;
  kept : Keeps l.search.root l.fn.self.of.items l.self.of.items;
}

abbrev pub decreases-loop-rule : goal.decreases-loop-rule
decreases-loop-rule l = work l.search.root l.self.of.items l.self.waiting.items
