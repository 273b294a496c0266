use Rattle.std.proofs.Common.{◌≡◌, ◌++◌, length}
use Rattle.std.specs.Vec.Iter.{into_iter_items, into_iter_len}
use Rattle.ipg_order.specs.Ordered.{AreOrderedAlts}
use Rattle.ipg_order.proofs.ordering.ordered_alts.Given as goal

abbrev pub invariant-loop-alt : goal.invariant-loop-alt
invariant-loop-alt l = (l.yielded ++ into_iter_items l.alt-iterator ≡ into_iter_items l.initial.alt-iterator)
    × (into_iter_len l.alt-iterator ≡ length (into_iter_items l.alt-iterator))
    × AreOrderedAlts l.initial.local.holders.now l.initial.local.flags.now l.initial.rule 0 l.yielded l.ordered.items
