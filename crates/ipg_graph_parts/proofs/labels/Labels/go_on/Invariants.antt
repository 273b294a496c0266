use Rattle.std.proofs.Common.{◌≤◌, length}
use Rattle.ipg_graph_parts.specs.Labels.{field_of, work, IsSpreading, Keeps}
use Rattle.ipg_graph_parts.specs.Chain.{IsPlace, left_from}
use Rattle.ipg_graph_parts.proofs.labels.Labels.go_on.Given as goal

abbrev pub invariant-loop-next : goal.invariant-loop-next
invariant-loop-next l = record {
  spreading : IsSpreading (field_of l.search) l.self.of.items l.self.waiting.items l.rule l.next;
  place : IsPlace l.search.from.now l.rule 0 l.next;
  kept : Keeps l.search.root l.fn.self.of.items l.self.of.items;
  less : work l.search.root l.self.of.items l.self.waiting.items ≤ work l.search.root l.fn.self.of.items l.fn.self.waiting.items;
}

abbrev pub decreases-loop-next : goal.decreases-loop-next
decreases-loop-next l = left_from (length l.search.from.now.keys) l.next
