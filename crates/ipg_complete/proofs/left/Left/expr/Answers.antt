use Rattle.std.proofs.Common.{◌≡◌, refl, sym, ap, ◌∙◌}
use Rattle.std.proofs.lemmas.List.{drop_all}
use Rattle.ipg_core.specs.declared.grammar.CoreExpr.TheVariants.{After}
use Rattle.ipg_complete.specs.Lefts.{behind_items, base_expr}
use Rattle.ipg_complete.proofs.Lists.{at_item}
use Rattle.ipg_complete.proofs.left.Left.expr.Goals as goal

pub loop-term-init : goal.loop-term-init
loop-term-init c = rw (c.in_ok-e.ensures, c.deref-term-items.ensures.value) c.self.view_is

pub loop-term-preserved : goal.loop-term-preserved
loop-term-preserved c =
    let us = c.deref-term-items.result.now in
    rw (c.in_ok-new.ensures) (ap (behind_items c.loop-term.e) (sym (at_item us c.loop-term.term-index 0 c.loop-term-test.true)) ∙ c.loop-term.invariant)

pub returns : goal.returns
returns c = ap (behind_items c.loop-term.e) (sym (drop_all c.loop-term.term-index c.deref-term-items.result.now c.loop-term-test.false)) ∙ c.loop-term.invariant
