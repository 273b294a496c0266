use Rattle.std.proofs.Common.{◌≡◌, drop}
use Rattle.ipg_facts_forms.specs.Table.{variables_shown}
use Rattle.ipg_facts_forms.specs.Numbers as spec
use Rattle.ipg_facts_forms.proofs.numbers.numbered.Given as goal

abbrev pub invariant-loop-at : goal.invariant-loop-at
invariant-loop-at l = l.numbered.items ≡ spec.numbered (variables_shown l.variables) (drop l.at l.terms)
