use Rattle.std.proofs.Common.{◌≡◌, ◌++◌, length}
use Rattle.std.specs.Vec.Iter.{into_iter_items, into_iter_len}
use Rattle.ipg_order.specs.Ordered.{AreOrderedRules}
use Rattle.ipg_order.proofs.ordering.ordered_rules.Given as goal

abbrev pub invariant-loop-rule : goal.invariant-loop-rule
invariant-loop-rule l = (l.yielded ++ into_iter_items l.rule-iterator ≡ into_iter_items l.initial.rule-iterator)
    × (into_iter_len l.rule-iterator ≡ length (into_iter_items l.rule-iterator))
    × AreOrderedRules l.initial.local.holders.now l.initial.local.flags.now 0 l.yielded l.ordered.items
