use Rattle.std.proofs.Common.{◌≡◌, ◌++◌, length, map}
use Rattle.std.specs.Vec.Iter.{into_iter_items, into_iter_len}
use Rattle.ipg_store_adopt.specs.Adopted.{completed_rule}
use Rattle.ipg_store_adopt.proofs.adopting.completed_rules.Given as goal

abbrev pub invariant-loop-rule : goal.invariant-loop-rule
invariant-loop-rule l = (l.yielded ++ into_iter_items l.rule-iterator ≡ into_iter_items l.initial.rule-iterator)
    × (into_iter_len l.rule-iterator ≡ length (into_iter_items l.rule-iterator))
    × (l.made.items ≡ map completed_rule l.yielded)
