use Rattle.std.proofs.Common.{ap, sym, ◌∙◌, ◌+◌, drop}
use Rattle.std.specs.Prelude.{flat_map}
use Rattle.ipg_facts_forms.specs.Numbers.{variables_in, with_variables}
use Rattle.ipg_facts_forms.specs.Table.{variables_shown}
use Rattle.ipg_facts_forms.specs.Pieces.{on_ok}
use Rattle.ipg_facts_forms.proofs.Tables.{variables_in_all, variables_in_any, facts_more}
use Rattle.ipg_facts_forms.proofs.numbers.+mentioning.Goals as goal

pub add_fact-returns-in-All : goal.add_fact-returns-in-All
add_fact-returns-in-All t c =
    on_ok c.add_facts.result _ _
    (λ e. e ∙ ap (with_variables (variables_shown c.args.variables.now))
    (ap (flat_map variables_in) c.as_slice-in-All.ensures ∙ variables_in_all c.in-All.members ∙ sym (ap variables_in c.in-All.is)))
    c.add_facts.ensures

pub add_fact-returns-in-Any : goal.add_fact-returns-in-Any
add_fact-returns-in-Any t c =
    on_ok c.add_facts-in-Any.result _ _
    (λ e. e ∙ ap (with_variables (variables_shown c.args.variables.now))
    (ap (flat_map variables_in) c.as_slice-in-Any.ensures ∙ variables_in_any c.in-Any.members ∙ sym (ap variables_in c.in-Any.is)))
    c.add_facts-in-Any.ensures

pub add_facts-loop-fact-preserved : goal.add_facts-loop-fact-preserved
add_facts-loop-fact-preserved t c =
    ap (λ variables. with_variables variables (flat_map variables_in (drop (c.loop-fact.fact-index + 1) c.args.facts.now))) c.in_ok-add_fact.ensures
    ∙ facts_more (variables_shown c.loop-fact.variables) c.args.facts.now c.loop-fact.fact-index c.fact-item.result _ c.loop-fact-test.true c.fact-item.is
    c.loop-fact.invariant
