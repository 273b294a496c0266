use Rattle.std.proofs.Common.{◌≡◌, [], length}
use Rattle.ipg_order.specs.Needs.{Listed}
use Rattle.ipg_order.proofs.Going.{Goes, Shows, taken_after}
use Rattle.ipg_order.specs.Closure.{unset}
use Rattle.ipg_order.proofs.arranging.arrange.Given as goal

abbrev pub invariant-loop-next : goal.invariant-loop-next
invariant-loop-next l = record {
  goes : Goes (Listed l.needs) (length l.needs) [] l.order.items;
  shows : Shows l.taken.items (taken_after [] l.order.items);
  size : length l.taken.items ≡ length l.needs;
}

-- each turn takes an item
abbrev pub decreases-loop-next : goal.decreases-loop-next
decreases-loop-next l = unset l.taken.items
