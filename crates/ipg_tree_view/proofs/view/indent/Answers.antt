use Rattle.std.proofs.Common.{◌++◌, ◌*◌, ap, ◌∙◌, arith, append_assoc, codes, ◌-◌, ◌≡◌}
use Rattle.ipg_tree_view.specs.View.{blanks, indented}
use Rattle.ipg_tree_view.proofs.Cuts.{indents, lacks_as, two_blanks}
use Rattle.ipg_tree_view.proofs.view.indent.Goals as goal

pub loop-left-init : goal.loop-left-init
loop-left-init c end = indents _ c.args.depth _ end c.new-text.ensures c.min-left.ensures

pub loop-left-preserved : goal.loop-left-preserved
loop-left-preserved c end =
    let left = c.loop-left.left in
    c.push.ensures (indented c.args.depth end) (blanks (2 * (left - 1)) ++ end)
    (lacks_as _ (indented c.args.depth end) _ _
    (ap (λ t. t ++ end) (two_blanks left c.loop-left-test.true) ∙ append_assoc (codes "  ") (blanks (2 * (left - 1))) end) (c.loop-left.invariant end))

pub returns : goal.returns
returns c end =
    let none : c.loop-left.left ≡ 0 = omega (arith, c.loop-left-test.false) in
    lacks_as _ (indented c.args.depth end) _ _ (ap (λ k. blanks (2 * k) ++ end) none) (c.loop-left.invariant end)
