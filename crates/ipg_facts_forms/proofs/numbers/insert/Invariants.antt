use Rattle.std.proofs.Common.{◌≡◌}
use Rattle.ipg_facts_forms.proofs.Inserted.{Below}
use Rattle.ipg_facts_forms.proofs.numbers.insert.Given as goal

abbrev pub invariant-loop-at : goal.invariant-loop-at
invariant-loop-at l = (l.terms.items ≡ l.fn.terms.items) × Below l.at l.terms.items l.term
