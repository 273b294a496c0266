use Rattle.std.proofs.Common.{◌≡◌, ◌++◌, map, drop}
use Rattle.ipg_facts_forms.specs.Table.{variables_shown}
use Rattle.ipg_facts_forms.specs.Numbers as spec
use Rattle.ipg_facts_forms.proofs.numbers.+numbering.Given as goal

abbrev pub invariant-formulas_of-loop-fact : goal.invariant-formulas_of-loop-fact
invariant-formulas_of-loop-fact l = l.formulas.items ++ map (spec.formula_of (variables_shown l.variables)) (drop l.fact-index l.facts)
    ≡ map (spec.formula_of (variables_shown l.variables)) l.facts
