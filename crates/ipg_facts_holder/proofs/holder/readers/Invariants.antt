use Rattle.std.proofs.Common.{◌≡◌}
use Rattle.ipg_facts_holder.specs.Holder as holder
use Rattle.ipg_facts_holder.proofs.holder.readers.Given as goal

abbrev pub invariant-loop-round : goal.invariant-loop-round
invariant-loop-round l = l.marks.items ≡ holder.readers l.g l.attr l._round
