use Rattle.std.proofs.Common.{◌≡◌, ◌++◌, map, drop}
use Rattle.ipg_facts_forms.specs.Table.{variables_shown}
use Rattle.ipg_facts_forms.proofs.numbers.copies.Given as goal

abbrev pub invariant-loop-variable : goal.invariant-loop-variable
invariant-loop-variable l = l.copies.items ++ map (λ variable. variable.now) (drop l.variable-index l.variable-items) ≡ variables_shown l.variables
