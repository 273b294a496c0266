use Rattle.std.proofs.Common.{◌≡◌, ◌++◌, map, drop}
use Rattle.ipg_facts_forms.specs.Table.{variables_shown}
use Rattle.ipg_facts_forms.specs.Numbers as spec
use Rattle.ipg_facts_forms.proofs.numbers.box_of.Given as goal

abbrev pub invariant-loop-variable : goal.invariant-loop-variable
invariant-loop-variable l =
    l.bounds.items ++ map spec.bounds_of (map (λ variable. variable.now) (drop l.variable-index l.variable-items))
    ≡ map spec.bounds_of (variables_shown l.variables)
