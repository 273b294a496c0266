use Rattle.std.proofs.Common.{◌≡◌, ◌++◌, map, drop}
use Rattle.ipg_facts_holder.specs.Holder as holder
use Rattle.ipg_facts_holder.proofs.holder.next_readers.Given as goal

abbrev pub invariant-loop-rule : goal.invariant-loop-rule
invariant-loop-rule l = l.next.items ++ map (holder.reads_next l.g l.attr l.marks) (drop l.rule-index l.rule-items)
    ≡ map (holder.reads_next l.g l.attr l.marks) l.g.rules
