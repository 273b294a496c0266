use Rattle.std.proofs.Common.{◌≡◌, ◌+◌, ◌≤◌, length}
use Rattle.ipg_graph_parts.specs.Chain.{IsPlace, left_from, callers_of}
use Rattle.ipg_graph_parts.specs.Finished.{IsWalk}
use Rattle.ipg_graph_parts.proofs.finished.Walk.enter_next.Given as goal

abbrev pub invariant-loop-next : goal.invariant-loop-next
invariant-loop-next l = record {
  walk : IsWalk l.links l.self;
  seen : l.self.seen.items ≡ l.fn.self.seen.items;
  place : IsPlace (callers_of l.links) l.rule 0 l.next;
  few : length l.self.moves.items + left_from (length l.links.callers) l.next ≤ length l.fn.self.moves.items + length l.links.callers;
}

abbrev pub decreases-loop-next : goal.decreases-loop-next
decreases-loop-next l = left_from (length l.links.callers) l.next
