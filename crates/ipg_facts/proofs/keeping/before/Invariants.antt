use Rattle.std.proofs.Common.{◌≡◌, ◌++◌, drop}
use Rattle.ipg_facts.specs.Keep as keeping
use Rattle.ipg_facts.proofs.keeping.before.Given as goal

abbrev pub invariant-loop-next : goal.invariant-loop-next
invariant-loop-next l = l.before.items ++ keeping.before l.term (drop l.next-index l.order) ≡ keeping.before l.term l.order
