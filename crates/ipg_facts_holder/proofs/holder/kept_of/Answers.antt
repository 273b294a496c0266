use Rattle.std.proofs.Common.{sym, ap, ◌∙◌, arith, ◌-◌}
use Rattle.std.specs.Prelude.{get_or}
use Rattle.ipg_facts_holder.specs.Holder.{with_term}
use Rattle.ipg_facts_holder.specs.Outers.{matters_by}
use Rattle.ipg_facts_holder.proofs.Wanted.{kept_none, kept_more}
use Rattle.ipg_facts_holder.proofs.holder.kept_of.Goals as goal

pub loop-place-init : goal.loop-place-init
loop-place-init c = λ caller e.
    c.new-behind.ensures.items ∙ kept_none c.args.holder.grammar.now c.args.holder.at c.args.holder.terms.now caller c.args.order.now

pub loop-place-preserved : goal.loop-place-preserved
loop-place-preserved c = λ caller e.
    let v = get_or c.args.order.now (c.loop-place.place - 1) 0 in
    sym (ap (λ m. with_term m v c.loop-place.behind.items) c.if-branch.false)
    ∙ kept_more c.args.holder.grammar.now c.args.holder.at c.args.holder.terms.now caller c.args.wanted.now c.args.order.now c.loop-place.behind.items
    c.loop-place.place c.in_ok-matters.field-0 (omega (arith, c.loop-place-test.true)) (omega (arith, c.loop-place-test.true, c.loop-place.auto.place))
    e (c.loop-place.invariant caller e)
    (c.in_ok-matters.ensures
    ∙ ap (matters_by c.args.holder.grammar.now c.args.holder.at c.args.holder.terms.now c.args.wanted.now v) c.as_slice.ensures.value)

pub loop-place-preserved-in-Continue-branch-2 : goal.loop-place-preserved-in-Continue-branch-2
loop-place-preserved-in-Continue-branch-2 c = λ caller e.
    let v = get_or c.args.order.now (c.loop-place.place - 1) 0 in
    c.in_ok-insert.ensures.items ∙ sym (ap (λ m. with_term m v c.loop-place.behind.items) c.if-branch.true)
    ∙ kept_more c.args.holder.grammar.now c.args.holder.at c.args.holder.terms.now caller c.args.wanted.now c.args.order.now c.loop-place.behind.items
    c.loop-place.place c.in_ok-matters.field-0 (omega (arith, c.loop-place-test.true)) (omega (arith, c.loop-place-test.true, c.loop-place.auto.place))
    e (c.loop-place.invariant caller e)
    (c.in_ok-matters.ensures
    ∙ ap (matters_by c.args.holder.grammar.now c.args.holder.at c.args.holder.terms.now c.args.wanted.now v) c.as_slice.ensures.value)
