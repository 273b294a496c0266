use Rattle.std.proofs.Common.{ap, ◌∙◌, ◌<◌, ◌≤◌, length, arith}
use Rattle.ipg_facts_forms.specs.Numbers.{insert, place}
use Rattle.ipg_facts_forms.specs.Table.{variables_shown}
use Rattle.ipg_facts_forms.proofs.Inserted.{numbered_none, numbered_more}
use Rattle.ipg_facts_forms.proofs.numbers.numbered.Goals as goal

pub loop-at-init : goal.loop-at-init
loop-at-init c = c.in_ok-numbered.ensures.items ∙ numbered_none (variables_shown c.args.variables.now) c.args.terms.now

pub loop-at-preserved : goal.loop-at-preserved
loop-at-preserved c =
    let variables = variables_shown c.args.variables.now in
    let t = c.index-terms-at.result in
    let some : 0 < c.loop-at.at = omega arith in
    let within : c.loop-at.at ≤ length c.args.terms.now = omega arith in
    c.in_ok-insert.ensures ∙ ap (λ n. insert n c.loop-at.numbered.items) c.numbered_term.ensures
    ∙ ap (insert (place variables t.0, t.1)) c.loop-at.invariant
    ∙ numbered_more variables c.args.terms.now c.loop-at.at t some within c.index-terms-at.is
