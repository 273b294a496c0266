use Rattle.std.proofs.Common.{[], ap, sym, ◌∙◌, subst}
use Rattle.ipg_core.specs.Tree.{attrs_of}
use Rattle.ipg_table.specs.Rows.{StandFor}
use Rattle.ipg_tree_view.specs.View.{line, node_text}
use Rattle.ipg_tree_view.proofs.Cuts.{head_is}
use Rattle.ipg_tree.specs.Putting.{as_text}
use Rattle.ipg_tree_view.proofs.view.put_node.Goals as goal

pub returns : goal.returns
returns g c grammar one stand said small =
    let stands = subst (λ t. StandFor t grammar) (sym c.tables.ensures) stand in
    let depth = c.args.depth in
    let at = c.args.at in
    let head = c.args.node.head in
    let named = ap (λ attrs. line at [] (node_text grammar depth at head.rule head.size attrs)) (c.attrs_at.ensures (attrs_of one) said.attrs) in
    as_text c.put_line.result _ _ _ _ _ _ (named ∙ head_is grammar c.args.p.now.parse.store c.args.node one depth at said)
    (c.put_line.ensures _ (c.node_text-text.ensures grammar stands small))
