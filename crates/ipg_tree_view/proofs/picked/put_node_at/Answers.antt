use Rattle.std.proofs.Common.{◌≡◌, sym, ◌∙◌, subst}
use Rattle.ipg_core.specs.Tree.{rule_of}
use Rattle.ipg_table.specs.Rows.{StandFor}
use Rattle.ipg_tree_view.proofs.Members.{tree_head_is}
use Rattle.ipg_tree.specs.Putting.{as_text}
use Rattle.ipg_tree_view.proofs.picked.put_node_at.Goals as goal

pub returns-in-Some : goal.returns-in-Some
returns-in-Some g c src grammar begin one stand stands small =
    let there = subst (λ t. StandFor t grammar) (sym c.tables.ensures) stand in
    let rule : c.in-Some.rule ≡ rule_of one = let e = sym c.in-Some.is ∙ c.rule.ensures.some src begin one stands in cc in
    as_text c.put_line.result _ _ _ _ _ _
    (tree_head_is grammar one c.args.depth c.args.at _ _ _ rule (sym (c.size.ensures src begin one stands)) (c.attrs.ensures src begin one stands))
    (c.put_line.ensures _ (c.node_text-text.ensures grammar there small))

pub returns-in-None : goal.returns-in-None
returns-in-None g c src grammar begin one stand stands small =
    let e = sym c.in-None.is ∙ c.rule.ensures.some src begin one stands in absurd (cc)
