use Rattle.std.proofs.Common.{◌≡◌, drop}
use Rattle.std.specs.Prelude.{flat_map}
use Rattle.ipg_facts_forms.specs.Table.{variables_shown}
use Rattle.ipg_facts_forms.specs.Numbers as spec
use Rattle.ipg_facts_forms.proofs.numbers.+mentioning.Given as goal

abbrev pub invariant-add_facts-loop-fact : goal.invariant-add_facts-loop-fact
invariant-add_facts-loop-fact l = spec.with_variables (variables_shown l.variables) (flat_map spec.variables_in (drop l.fact-index l.facts))
    ≡ spec.with_variables (variables_shown l.fn.variables) (flat_map spec.variables_in l.facts)
