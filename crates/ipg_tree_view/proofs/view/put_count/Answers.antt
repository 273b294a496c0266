use Rattle.std.proofs.Common.{◌≡◌, [], ◌++◌, ◌+◌, ◌-◌, arith, min, ◌∙◌}
use Rattle.std.specs.Prelude.{codes, decimal}
use Rattle.ipg_tree_view.specs.View.{indented}
use Rattle.ipg_tree_view.proofs.Cuts.{lacks_none, count_is}
use Rattle.ipg_tree.specs.Putting.{as_text}
use Rattle.ipg_tree_view.proofs.view.put_count.Goals as goal

pub returns : goal.returns
returns g c small =
    let deeper = c.saturating_add.result in
    let n = decimal (c.args.count - 48) in
    let all = indented deeper (n ++ codes " more") in
    let text = lacks_none _ all (c.push.ensures all [] (c.push_number.ensures all (codes " more") (c.indent-text.ensures (n ++ codes " more")))) in
    let behind : c.saturating_add-2.result ≡ c.args.at + 48 = c.saturating_add-2.ensures ∙ omega (arith, small) in
    let same : min deeper 12 ≡ min (c.args.depth + 1) 12 = let e = c.saturating_add.ensures in omega (arith, e) in
    as_text c.put_line.result _ _ _ _ _ _ (count_is c.args.depth c.args.at c.args.count deeper _ (omega (arith, c.if-count-le48.false)) behind same)
    (c.put_line.ensures all text)
