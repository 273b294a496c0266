use Rattle.std.proofs.Common.{◌≡◌, map, drop}
use Rattle.ipg_facts_forms.specs.Table.{variables_shown}
use Rattle.ipg_facts_forms.specs.Numbers as spec
use Rattle.ipg_facts_forms.proofs.numbers.add_terms.Given as goal

abbrev pub invariant-loop-term : goal.invariant-loop-term
invariant-loop-term l = spec.with_variables (variables_shown l.variables) (map (λ term. term.0) (drop l.term-index l.terms))
    ≡ spec.with_variables (variables_shown l.fn.variables) (map (λ term. term.0) l.terms)
