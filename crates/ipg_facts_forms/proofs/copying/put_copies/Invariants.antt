use Rattle.std.proofs.Common.{◌≡◌, ◌++◌, drop}
use Rattle.ipg_facts_forms.proofs.copying.put_copies.Given as goal

abbrev pub invariant-loop-fact : goal.invariant-loop-fact
invariant-loop-fact l = l.out.items ++ drop l.fact-index l.facts ≡ l.fn.out.items ++ l.facts
